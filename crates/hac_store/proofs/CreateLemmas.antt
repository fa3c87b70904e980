-- What a crash may leave while a new store is being made.
use Rattle.std.proofs.Common.{◌≡◌, ◌⊎◌, inl, inr, ℕ, ◌<◌, List, [], ◌∷◌, ◌++◌, length, take, drop, slice_index, None, Some, Ok, Err, Result, IfOk, IfSome, OnOk, IsErr, refl, sym, ◌∙◌, ap, subst, arith, append_assoc}
use Rattle.std.specs.Bool.{⊤}
use Rattle.std.specs.declared.option.Option.{Option}
use Rattle.std.proofs.lemmas.List.{get_or-take, drop_at, take_at, length-take}
use Rattle.hac_disk.specs.Contents.{HasByteAt, HasLength, StandAt, Written}
use Rattle.hac_disk.specs.Exchanges.{Exchange}
use Rattle.hac_disk.specs.Exchanges as exchange
use Rattle.hac_disk.specs.Images.{IsQuiet, IsSettled, LeavesOnly, Only, Torn, TornFrom, overlaid}
use Rattle.hac_disk.specs.Seen.{DiskSeen, IsLawful}
use Rattle.hac_disk.proofs.Moments.{quiet_leaves, then_quiet, then_run, weaken}
use Rattle.hac_disk.proofs.ContentsLemmas.{if_known, told-settled, told-written}
use Rattle.hac_checkpoint.specs.Flips.{HasRoot}
use Rattle.hac_journal.specs.Appending.{ClosedAt}
use Rattle.hac_model.specs.Run.Play.{new_setting}
use Rattle.hac_store.specs.Creating.{Becomes, IsReady, HoldsNone, SyncsFirst}
use Rattle.hac_store.specs.Held.{held}
use Rattle.hac_store.specs.Stores.{Bears, IsNewOrNone, Seen, Stands, first_store, root_by}
use Rattle.hac_outside.specs.declared.fault.Failed.{Failed}
use Rattle.hac_store.specs.declared.fault.StoreFault.{StoreFault}
use Rattle.hac_store.specs.declared.fault.StoreFault.TheVariants as fault
use Rattle.hac_model.specs.declared.states.State.{State}
use Rattle.hac_store.specs.declared.creating.TheConstants.{NEW}
use Rattle.hac_store.proofs.HeldLemmas.{held-stored}
use Rattle.hac_store.proofs.NewLemmas.{opened-held, opened-rooted, torn-behind, torn-first, torn-open, torn-shut, unheld-new}

-- what follows where a call went well
pub ok-then : {T E P Q : Type 0} (result : Result T E) → (P → Q) → OnOk result P → OnOk result Q
ok-then (Ok value) then_q p = then_q p
ok-then (Err e) then_q p = tt

-- what is said of a file, said of it where it is known
if_each : (seen : Option (List ℕ)) (P : List ℕ → Type 0) → ((file : List ℕ) → seen ≡ Some file → P file) → IfSome seen P
if_each None P each = tt
if_each (Some file) P each = each file refl

-- what a known file became
pub record Became (P : List ℕ → Type 0) (new : Option (List ℕ)) : Type 0 where
  pub file : List ℕ
  pub is : new ≡ Some file
  pub has : P file

became : (seen new : Option (List ℕ)) (P : List ℕ → Type 0) (file : List ℕ) → seen ≡ Some file → Becomes seen P new → Became P new
became None new P file is becomes = absurd (cc)
became (Some old) None P file is becomes = absurd becomes
became (Some old) (Some now) P file is becomes = record { file = now; is = refl; has = becomes }

-- the byte that was read is that of the file
read-gate : (file into : List ℕ) → into ≡ take (length into) (drop 0 file) → 0 < length into → slice_index file 0 ≡ slice_index into 0
read-gate file into read some = sym (get_or-take (length into) file 0 0 some) ∙ ap (λ (l : List ℕ). slice_index l 0) (sym read)

-- the rest of a new store behind a gate
pub rest-ready : (seen mid new : Option (List ℕ)) → Becomes seen (ClosedAt 0) mid → Written mid 1 (drop 1 NEW) new → Becomes seen IsReady new
rest-ready None mid new shut written = subst (λ m. Written m 1 (drop 1 NEW) new) shut written
rest-ready (Some old) None new shut written = absurd shut
rest-ready (Some old) (Some file) new shut written =
    let one : length (take 1 file) ≡ 1 = omega (arith, length-take 1 file, shut.there) in
    let behind = drop 65 file in
    let ready : IsReady (overlaid 1 (drop 1 NEW) file) =
    ap (λ (l : List ℕ). take 64 (drop 1 l)) (append_assoc (take 1 file) (drop 1 NEW) behind)
    ∙ ap (take 64) (drop_at (take 1 file) (drop 1 NEW ++ behind) 1 one) ∙ take_at (drop 1 NEW) behind 64 refl in
    subst (Becomes (Some old) IsReady) (sym written) ready

-- a store that was read from a settled disk: the disk stands for it
pub loaded-stands : (old mid new : DiskSeen) (result : Result Seen StoreFault) (found : Seen) → mid.contents ≡ old.contents → IsQuiet mid new → IsSettled mid
    → IfSome mid.contents (λ file. held file ≡ Ok found.setting) → IfOk result (λ store. store ≡ found) → IfSome old.contents (λ _. IfOk result (λ store. Stands new store.setting))
loaded-stands old mid new result found same quiet settled holds is =
    if_each old.contents (λ _. IfOk result (λ store. Stands new store.setting)) (λ file told. at file (same ∙ told) result is)
  where
    at : (file : List ℕ) → mid.contents ≡ Some file → (result : Result Seen StoreFault) → IfOk result (λ store. store ≡ found) → IfOk result (λ store. Stands new store.setting)
    at file told (Err fault) is = tt
    at file told (Ok store) is =
        let only = told-settled mid file told settled in
        let has : held file ≡ Ok store.setting = subst (λ s. IfSome s (λ f. held f ≡ Ok found.setting)) told holds ∙ ap (λ (s : Seen). Ok s.setting) (sym is) in
        let stored = ap (λ (s : State). Ok (record store.setting { state = s })) (sym (held-stored file store.setting has)) in
        record {
          file = file;
          is = quiet.same ∙ told;
          each = λ c left. ap held (only c (quiet.images c left)) ∙ has ∙ stored;
        }

-- once its gate is open, it is a new store
pub opened-stands : {E : Type 0} (result : Result Unit E) (old mid new : DiskSeen) → Becomes old.contents IsReady mid.contents
    → OnOk result (Written mid.contents 0 (1 ∷ []) new.contents) → OnOk result (IsSettled new) → IfSome old.contents (λ _. OnOk result (Stands new new_setting))
opened-stands (Err e) old mid new ready written settled = if_each old.contents (λ _. ⊤) (λ file is. tt)
opened-stands (Ok u) old mid new ready written settled =
    if_each old.contents (λ _. Stands new new_setting) (λ file is.
    let all = became old.contents mid.contents IsReady file is ready in
    let bytes = overlaid 0 (1 ∷ []) all.file in
    let told = told-written mid.contents new.contents all.file (1 ∷ []) 0 all.is written in
    let only = told-settled new bytes told settled in
    record { file = bytes; is = told; each = λ c left. ap held (only c left) ∙ (opened-held all.file all.has).0 })

pub opened-place : {E : Type 0} (result : Result Unit E) (old mid new : DiskSeen) → Becomes old.contents IsReady mid.contents
    → OnOk result (Written mid.contents 0 (1 ∷ []) new.contents) → OnOk result (Bears new first_store)
opened-place (Err e) old mid new ready written = tt
opened-place (Ok u) old mid new ready written = at old.contents mid.contents new.contents ready written
  where
    at : (seen mid new : Option (List ℕ)) → Becomes seen IsReady mid → Written mid 0 (1 ∷ []) new
        → HasByteAt new first_store.setting.end × IfSome new (HasRoot (root_by first_store))
    at None mid new ready written =
        let none : new ≡ None = subst (λ m. Written m 0 (1 ∷ []) new) ready written in
        subst (λ s. HasByteAt s first_store.setting.end × IfSome s (HasRoot (root_by first_store))) (sym none) (tt, tt)
    at (Some old) None new ready written = absurd ready
    at (Some old) (Some file) new ready written =
        subst (λ s. HasByteAt s first_store.setting.end × IfSome s (HasRoot (root_by first_store))) (sym written) ((opened-held file ready).1, opened-rooted file ready)

abbrev LeavesNew : DiskSeen → DiskSeen → Type 0
LeavesNew old new = LeavesOnly old new IsNewOrNone

abbrev pub Leaves : DiskSeen → DiskSeen → Type 0
Leaves old new = IfSome old.contents (λ _. LeavesNew old new)

abbrev pub Runs : DiskSeen → DiskSeen → ℕ → ℕ → Type 0
Runs old new at n = LeavesOnly old new (TornFrom at n old.image)

-- no write yet, where the file is settled and holds no store
quiet-run : (old new : DiskSeen) (file : List ℕ) → IsLawful old → old.contents ≡ Some file → IsSettled old → HoldsNone old.contents → IsQuiet old new → LeavesNew old new
quiet-run old new file lawful is settled unheld quiet =
    quiet_leaves old new IsNewOrNone
    (λ c since. unheld-new c (subst (λ f. IsErr (held f)) (sym (told-settled old file is settled c (lawful.only_now c since))) (subst HoldsNone is unheld))) quiet

-- one write to a settled file
write-run : (mid new : DiskSeen) (at n : ℕ) (file : List ℕ) → mid.contents ≡ Some file → IsSettled mid → Runs mid new at n → ((c : List ℕ) → Torn at n file c → IsNewOrNone c) → LeavesNew mid new
write-run mid new at n file is settled run each =
    weaken mid new (TornFrom at n mid.image) IsNewOrNone
    (λ c torn. each c (subst (λ d. Torn at n d c) (told-settled mid file is settled torn.0 torn.1) torn.2)) run

quiet-settled : (old mid : DiskSeen) (file : List ℕ) → old.contents ≡ Some file → IsSettled old → IsQuiet old mid → IsSettled mid
quiet-settled old mid file is settled quiet =
    let only = told-settled old file is settled in
    subst (λ s. IfSome s (λ f. Only f mid.image)) (sym (quiet.same ∙ is)) (λ c left. only c (quiet.images c left))

-- one write behind quiet calls
write-new : (old mid new : DiskSeen) (at n : ℕ) → IsLawful old → IsSettled old → HoldsNone old.contents → IsQuiet old mid → Runs mid new at n
    → ((file c : List ℕ) → old.contents ≡ Some file → Torn at n file c → IsNewOrNone c) → Leaves old new
write-new old mid new at n lawful settled unheld quiet run each =
    if_known old.contents (LeavesNew old new) (λ file is.
    then_run old mid new IsNewOrNone (quiet-run old mid file lawful is settled unheld quiet)
    (write-run mid new at n file (quiet.same ∙ is) (quiet-settled old mid file is settled quiet) run (λ c torn. each file c is torn)))

-- the gate is closed
pub close-new : (old mid new : DiskSeen) (into : List ℕ) → IsLawful old → IsSettled old → HoldsNone old.contents → HasByteAt old.contents 0 → IsQuiet old mid → StandAt old.contents 0 into
    → 0 < length into → slice_index into 0 ≡ 1 → Runs mid new 0 1 → Leaves old new
close-new old mid new into lawful settled unheld some quiet read long gate run =
    write-new old mid new 0 1 lawful settled unheld quiet run
    (λ file c is torn. torn-shut file c (subst HoldsNone is unheld) (subst (λ s. HasByteAt s 0) is some) (read-gate file into (subst (λ s. StandAt s 0 into) is read) long ∙ gate) torn)

-- an empty file gets all of a new store but its open gate
pub first-new : (old mid new : DiskSeen) (len : ℕ) → IsLawful old → IsSettled old → HoldsNone old.contents → IsQuiet old mid → HasLength old.contents len → len ≡ 0 → Runs mid new 0 65 → Leaves old new
first-new old mid new len lawful settled unheld quiet long none run =
    write-new old mid new 0 65 lawful settled unheld quiet run
    (λ file c is torn. torn-first file c (sym (subst (λ s. HasLength s len) is long) ∙ none) torn)

-- the rest of a new store is written behind a closed gate
pub behind-new : (old len mid new : DiskSeen) (n : ℕ) → IsLawful old → IsSettled old → HoldsNone old.contents → IsQuiet old len → Leaves len mid
    → Becomes len.contents (ClosedAt 0) mid.contents → IsSettled mid → Runs mid new 1 n → Leaves old new
behind-new old len mid new n lawful settled unheld quiet closing shut kept run =
    if_known old.contents (LeavesNew old new) (λ file is.
    let now : len.contents ≡ Some file = quiet.same ∙ is in
    let closed = became len.contents mid.contents (ClosedAt 0) file now shut in
    then_run old len new IsNewOrNone (quiet-run old len file lawful is settled unheld quiet)
    (then_run len mid new IsNewOrNone (subst (λ s. IfSome s (λ _. LeavesNew len mid)) now closing)
    (write-run mid new 1 n closed.file closed.is kept run (λ c torn. torn-behind closed.file c n closed.has torn))))

-- and then the gate is opened
pub open-new : (old mid new : DiskSeen) → Leaves old mid → Becomes old.contents IsReady mid.contents → IsSettled mid → Runs mid new 0 1 → Leaves old new
open-new old mid new so_far ready kept run =
    if_known old.contents (LeavesNew old new) (λ file is.
    let all = became old.contents mid.contents IsReady file is ready in
    then_run old mid new IsNewOrNone (subst (λ s. IfSome s (λ _. LeavesNew old mid)) is so_far)
    (write-run mid new 0 1 all.file all.is kept run (λ c torn. torn-open all.file c all.has torn)))

-- a store is made once nothing was found
pub made-moments : (old synced found new : DiskSeen) → IsLawful old → IsQuiet old synced → IsQuiet synced found → Leaves found new
    → IfSome old.contents (λ file. IsErr (held file) → LeavesOnly old new (λ c. old.image c ⊎ IsNewOrNone c))
made-moments old synced found new lawful first second leaves =
    if_each old.contents (λ file. IsErr (held file) → LeavesOnly old new (λ c. old.image c ⊎ IsNewOrNone c)) (λ file is none.
    let told : found.contents ≡ Some file = second.same ∙ first.same ∙ is in
    let run = subst (λ s. IfSome s (λ _. LeavesNew found new)) told leaves in
    let P : List ℕ → Type 0 = λ c. old.image c ⊎ IsNewOrNone c in
    let begun = quiet_leaves old synced P (λ c since. inl (lawful.only_now c since)) first in
    then_run old found new P (then_quiet old synced found P begun second)
    (weaken found new IsNewOrNone P (λ c new. inr new) run))

-- the opening sync, and what a crash leaves since
module _ {D T : Type 0} (seen : D → DiskSeen) (does : Exchange → D → D → Type 0) (old : D) (result : Result T StoreFault) where
  -- it failed
  pub unsynced : (new : D) (why : Failed) → result ≡ Err fault.Disk → does (exchange.Sync (Err why)) old new
      → IfSome (seen old).contents (λ file. IsErr (held file) → SyncsFirst seen does IsNewOrNone old new result)
  unsynced new why is failed = if_each (seen old).contents (λ file. IsErr (held file) → SyncsFirst seen does IsNewOrNone old new result) (λ file told none. inr (is, (why, failed)))

  -- it went well, and quiet calls followed
  pub synced-quiet : (mid new : D) → IsLawful (seen mid) → IsQuiet (seen old) (seen mid) → IsSettled (seen mid) → does (exchange.Sync (Ok tt)) old mid → IsQuiet (seen mid) (seen new)
      → IfSome (seen old).contents (λ file. IsErr (held file) → SyncsFirst seen does IsNewOrNone old new result)
  synced-quiet mid new lawful first settled synced second =
      if_each (seen old).contents (λ file. IsErr (held file) → SyncsFirst seen does IsNewOrNone old new result) (λ file told none.
      let is : (seen mid).contents ≡ Some file = first.same ∙ told in
      inl (record { mid = mid; synced = synced; since = quiet-run (seen mid) (seen new) file lawful is settled (subst HoldsNone (sym is) none) second }))

  -- and then a store was made
  pub synced-moments : (mid found new : D) → IsLawful (seen mid) → IsQuiet (seen old) (seen mid) → IsSettled (seen mid) → does (exchange.Sync (Ok tt)) old mid → IsQuiet (seen mid) (seen found)
      → Leaves (seen found) (seen new) → IfSome (seen old).contents (λ file. IsErr (held file) → SyncsFirst seen does IsNewOrNone old new result)
  synced-moments mid found new lawful first settled synced second leaves =
      if_each (seen old).contents (λ file. IsErr (held file) → SyncsFirst seen does IsNewOrNone old new result) (λ file told none.
      let is : (seen mid).contents ≡ Some file = first.same ∙ told in
      let begun = quiet-run (seen mid) (seen found) file lawful is settled (subst HoldsNone (sym is) none) second in
      let run = subst (λ s. IfSome s (λ _. LeavesNew (seen found) (seen new))) (second.same ∙ is) leaves in
      inl (record { mid = mid; synced = synced; since = then_run (seen mid) (seen found) (seen new) IsNewOrNone begun run }))
