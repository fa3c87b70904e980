-- What an append leaves at any moment, after its first write and after both.
use Rattle.std.proofs.Common.{◌≡◌, ℕ, ◌+◌, List, ◌∷◌, IfSome, subst}
use Rattle.hac_disk.specs.Contents.{HasByteAt, Written}
use Rattle.hac_disk.specs.Images.{IsSettled, LeavesOnly, TornFrom}
use Rattle.hac_disk.specs.Seen.{DiskSeen, IsLawful}
use Rattle.hac_disk.proofs.Moments.{then_run, weaken}
use Rattle.hac_disk.proofs.ContentsLemmas.{if_known}
use Rattle.hac_journal.specs.Appending.{Appending, ClosedAt}
use Rattle.hac_journal.proofs.CrashLemmas.{torn-behind, gate-images}

abbrev Leaves : DiskSeen → DiskSeen → ℕ → List ℕ → Type 0
Leaves old new end log = ((c : List ℕ) → old.image c → ClosedAt end c) → LeavesOnly old new (Appending end log old.image)

abbrev pub Promise : DiskSeen → DiskSeen → ℕ → List ℕ → Type 0
Promise old new end log = IfSome old.contents (λ _. Leaves old new end log)

abbrev Runs : DiskSeen → DiskSeen → ℕ → ℕ → Type 0
Runs old new at n = LeavesOnly old new (TornFrom at n old.image)

behind-run : (old mid : DiskSeen) (end n : ℕ) (log : List ℕ) → Runs old mid (end + 1) n → Leaves old mid end log
behind-run old mid end n log run closed =
    weaken old mid (TornFrom (end + 1) n old.image) (Appending end log old.image) (λ c. torn-behind end n log c old.image closed) run

pub behind-moments : (old mid : DiskSeen) (end n : ℕ) (log : List ℕ) → Runs old mid (end + 1) n → Promise old mid end log
behind-moments old mid end n log run =
    if_known old.contents (Leaves old mid end log) (λ file is closed. behind-run old mid end n log run closed)

pub both-moments : (old mid new : DiskSeen) → IsLawful old → (end n : ℕ) (body log : List ℕ)
    → 1 ∷ body ≡ log → HasByteAt old.contents end → Written old.contents (end + 1) body mid.contents → IsSettled mid
    → Runs old mid (end + 1) n → Runs mid new end 1 → Promise old new end log
both-moments old mid new lawful end n body log is gate written settled first second =
    if_known old.contents (Leaves old new end log) (λ file told closed.
    let opening : LeavesOnly mid new (Appending end log old.image) =
    weaken mid new (TornFrom end 1 mid.image) (Appending end log old.image)
    (λ c torn. subst (λ l. Appending end l old.image c) is (gate-images old mid end body file told (lawful.read_is_image file told) gate written settled c torn)) second in
    then_run old mid new (Appending end log old.image) (behind-run old mid end n log first closed) opening)
