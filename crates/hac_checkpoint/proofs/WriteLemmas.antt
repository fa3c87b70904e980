-- Writes one behind the other in one part of a file.
use Rattle.std.proofs.Common.{◌≡◌, ℕ, ◌+◌, ◌-◌, ◌≤◌, List, length, drop, None, Some, Ok, Err, Result, OnOk, OnErr, refl, sym, ◌∙◌, ap, subst, arith}
use Rattle.std.specs.declared.option.Option.{Option}
use Rattle.std.proofs.lemmas.List.{drop-drop}
use Rattle.hac_disk.specs.Images.{Elapses, Follows, IsQuiet, IsSettled, LeavesOnly, Torn, TornFrom, overlaid}
use Rattle.hac_disk.specs.Seen.{DiskSeen, IsLawful}
use Rattle.hac_disk.specs.Contents.{RangeWithin, StartsWithin, Written, WrittenInPart}
use Rattle.hac_disk.proofs.Moments.{quiet_leaves, started, then_quiet, then_run, then_write, weaken}
use Rattle.hac_disk.proofs.ContentsLemmas.{told-settled, told-written}
use Rattle.hac_disk.proofs.TornLemmas.{torn-from, torn-none, torn-whole}
use Rattle.hac_journal.proofs.CrashLemmas.{front-less}
use Rattle.hac_checkpoint.specs.Writes.{IsSettledWith, WritesWithin}

-- files that are the same from a place on are so from a later one
pub back-less : (c d : List ℕ) (m n : ℕ) → m ≤ n → drop m c ≡ drop m d → drop n c ≡ drop n d
back-less c d m n le same =
    let there : m + (n - m) ≡ n = omega (arith, le) in
    ap (λ (k : ℕ). drop k c) (sym there) ∙ sym (drop-drop (n - m) m c) ∙ ap (drop (n - m)) same ∙ drop-drop (n - m) m d ∙ ap (λ (k : ℕ). drop k d) there

-- what was torn twice in one part of a file was torn there
torn-twice : (at n : ℕ) (a b c : List ℕ) → Torn at n a b → Torn at n b c → Torn at n a c
torn-twice at n a b c first second = record {
  before = second.before ∙ first.before;
  after = second.after ∙ first.after;
  no_shorter = omega (arith, first.no_shorter, second.no_shorter);
  no_longer = omega (arith, first.no_longer, second.no_longer);
}

pub torn-wider : (a m at n : ℕ) (c d : List ℕ) → at ≤ a → a + m ≤ at + n → Torn a m c d → Torn at n c d
torn-wider a m at n c d low high torn = record {
  before = front-less d c at a low torn.before;
  after = back-less d c (a + m) (at + n) high torn.after;
  no_shorter = torn.no_shorter;
  no_longer = omega (arith, torn.no_longer, high);
}

-- what a disk may tell is written in part by writing nothing, and two such parts are one
told-none : (seen : Option (List ℕ)) (at n : ℕ) → WrittenInPart seen at n seen
told-none None at n = refl
told-none (Some file) at n = torn-none at n file

told-twice : (seen mid new : Option (List ℕ)) (at n : ℕ) → WrittenInPart seen at n mid → WrittenInPart mid at n new → WrittenInPart seen at n new
told-twice None mid new at n first second = subst (λ m. WrittenInPart m at n new) first second
told-twice (Some a) None new at n first second = absurd first
told-twice (Some a) (Some b) None at n first second = absurd second
told-twice (Some a) (Some b) (Some c) at n first second = torn-twice at n a b c first second

told-wider : (seen new : Option (List ℕ)) (a m at n : ℕ) → at ≤ a → a + m ≤ at + n → WrittenInPart seen a m new → WrittenInPart seen at n new
told-wider None new a m at n low high told = told
told-wider (Some c) None a m at n low high told = told
told-wider (Some c) (Some d) a m at n low high told = torn-wider a m at n c d low high told

-- whether a write went well or not
told-write : {T E : Type 0} (result : Result T E) (seen new : Option (List ℕ)) (at : ℕ) (bytes : List ℕ) → StartsWithin seen at
    → OnOk result (Written seen at bytes new) → OnErr result (WrittenInPart seen at (length bytes) new) → WrittenInPart seen at (length bytes) new
told-write (Err e) seen new at bytes starts written in_part = in_part
told-write (Ok u) None new at bytes starts written in_part = written
told-write (Ok u) (Some old) new at bytes starts written in_part =
    subst (WrittenInPart (Some old) at (length bytes)) (sym written) (torn-whole at bytes old starts)

-- a place in the head of a file
pub starts-head : (seen : Option (List ℕ)) (at : ℕ) → RangeWithin seen 0 64 → at ≤ 64 → StartsWithin seen at
starts-head None at head low = tt
starts-head (Some file) at head low = omega (arith, head, low)

abbrev Within : ℕ → ℕ → DiskSeen → DiskSeen → Type 0
Within at n old new = WritesWithin at n old new

pub within-run : (at n : ℕ) (old mid new : DiskSeen) → Within at n old mid → Within at n mid new → Within at n old new
within-run at n old mid new first second =
    let joined : (c : List ℕ) → TornFrom at n mid.image c → TornFrom at n old.image c =
    λ c torn. let from = first.images torn.0 torn.1 in (from.0, from.1, torn-twice at n from.0 torn.0 c from.2 torn.2) in
    record {
      in_part = told-twice old.contents mid.contents new.contents at n first.in_part second.in_part;
      images = λ c left. joined c (second.images c left);
      any_moment = then_run old mid new (TornFrom at n old.image) first.any_moment
          (weaken mid new (TornFrom at n mid.image) (TornFrom at n old.image) joined second.any_moment);
    }

-- one write in that part that is synced
pub within-stable : {T E : Type 0} (result : Result T E) (a at n : ℕ) (bytes : List ℕ) (old new : DiskSeen) → at ≤ a → a + length bytes ≤ at + n → StartsWithin old.contents a
    → OnOk result (Written old.contents a bytes new.contents) → OnErr result (WrittenInPart old.contents a (length bytes) new.contents)
    → Follows (Torn a (length bytes)) old.image new.image → LeavesOnly old new (TornFrom a (length bytes) old.image)
    → Within at n old new
within-stable result a at n bytes old new low high starts written in_part images run =
    let wider : (c : List ℕ) → TornFrom a (length bytes) old.image c → TornFrom at n old.image c =
    λ c torn. (torn.0, torn.1, torn-wider a (length bytes) at n torn.0 c low high torn.2) in
    record {
      in_part = told-wider old.contents new.contents a (length bytes) at n low high (told-write result old.contents new.contents a bytes starts written in_part);
      images = λ c left. wider c (images c left);
      any_moment = weaken old new (TornFrom a (length bytes) old.image) (TornFrom at n old.image) wider run;
    }

-- what one such write makes of a settled file
pub stable-leaves : (P Q : List ℕ → Type 0) (at n : ℕ) (old new : DiskSeen) → IsSettledWith P old
    → ((file c : List ℕ) → old.contents ≡ Some file → P file → Torn at n file c → Q c)
    → LeavesOnly old new (TornFrom at n old.image) → LeavesOnly old new Q
stable-leaves P Q at n old new settled each run =
    weaken old new (TornFrom at n old.image) Q
    (λ c torn. each settled.file c settled.is settled.has (subst (λ f. Torn at n f c) (settled.only torn.0 torn.1) torn.2)) run

pub stable-settles : {T E : Type 0} (result : Result T E) (P Q : List ℕ → Type 0) (at : ℕ) (bytes : List ℕ) (old new : DiskSeen) → IsSettledWith P old
    → ((file : List ℕ) → old.contents ≡ Some file → P file → Q (overlaid at bytes file))
    → OnOk result (Written old.contents at bytes new.contents) → OnOk result (IsSettled new)
    → OnOk result (IsSettledWith Q new)
stable-settles (Err e) P Q at bytes old new settled each written synced = tt
stable-settles (Ok u) P Q at bytes old new settled each written synced =
    let now = told-written old.contents new.contents settled.file bytes at settled.is written in
    record {
      file = overlaid at bytes settled.file;
      is = now;
      has = each settled.file settled.is settled.has;
      only = told-settled new (overlaid at bytes settled.file) now synced;
    }

-- a quiet call keeps a settled file
pub quiet-settled : (P : List ℕ → Type 0) (old new : DiskSeen) → IsSettledWith P old → IsQuiet old new → IsSettledWith P new
quiet-settled P old new settled quiet = record {
  file = settled.file;
  is = quiet.same ∙ settled.is;
  has = settled.has;
  only = λ c left. settled.only c (quiet.images c left);
}

within-none : (at n : ℕ) (disk : DiskSeen) → IsLawful disk → Within at n disk disk
within-none at n disk lawful = record {
  in_part = told-none disk.contents at n;
  images = λ c left. torn-from at n disk.image c left;
  any_moment = started disk (TornFrom at n disk.image) (λ c since. torn-from at n disk.image c (lawful.only_now c since));
}

pub within-quiet : (at n : ℕ) (old new : DiskSeen) → IsLawful old → IsQuiet old new → Within at n old new
within-quiet at n old new lawful quiet = record {
  in_part = subst (WrittenInPart old.contents at n) (sym quiet.same) (told-none old.contents at n);
  images = λ c left. torn-from at n old.image c (quiet.images c left);
  any_moment = then_quiet old old new (TornFrom at n old.image) (within-none at n old lawful).any_moment quiet;
}

-- one write in that part that isn't synced
pub within-write : {T E : Type 0} (result : Result T E) (a at n : ℕ) (bytes : List ℕ) (old new : DiskSeen) → IsLawful old → at ≤ a → a + length bytes ≤ at + n → StartsWithin old.contents a
    → OnOk result (Written old.contents a bytes new.contents) → OnErr result (WrittenInPart old.contents a (length bytes) new.contents)
    → Follows (Torn a (length bytes)) old.image new.image
    → Elapses old new → Within at n old new
within-write result a at n bytes old new lawful low high starts written in_part images time =
    within-stable result a at n bytes old new low high starts written in_part images
    (then_write old old new (TornFrom a (length bytes) old.image) (within-none a (length bytes) old lawful).any_moment time images)

-- while a settled file is only read, a crash leaves it
pub quiet-leaves : (P : List ℕ → Type 0) (old new : DiskSeen) → IsLawful old → IsSettledWith P old → IsQuiet old new → LeavesOnly old new P
quiet-leaves P old new lawful settled quiet =
    quiet_leaves old new P (λ c since. subst P (sym (settled.only c (lawful.only_now c since))) settled.has) quiet
