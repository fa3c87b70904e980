-- How a store is opened once the file of the store is attached: what is told of each call is told of both.
use Rattle.std.proofs.Common.{◌≡◌, ℕ, true, false, Bool, List, refl, ap, sym, ◌∙◌, subst, rules}
use Rattle.std.specs.Prelude.{Option, None, Some, Result, Ok, Err, IfErr, IfOk, IsErr, IsOk, OnOk}
use Rattle.std.specs.Option.{IfSome}
use Rattle.std.specs.Result.{is_err}
use Rattle.hac_disk.specs.Contents.{Attaches}
use Rattle.hac_disk.specs.Images.{IsQuiet}
use Rattle.hac_disk.specs.Seen.{DiskSeen}
use Rattle.hac_disk.proofs.Moments.{quiet_twice}
use Rattle.hac_outside.specs.Causes.{ReportsFault}
use Rattle.hac_model.specs.Run.Play.{Setting, new_setting}
use Rattle.hac_model.specs.Tree.Valid.{IsValid}
use Rattle.hac_store.specs.Faults as faults
use Rattle.hac_store.specs.Held.{held}
use Rattle.hac_store.specs.Stores as store
use Rattle.hac_store.specs.Stores.{Bears, Seen, first_store}
use Rattle.hac_store.specs.declared.fault.StoreFault.{StoreFault}
use Rattle.hac_store.specs.declared.fault.StoreFault.TheVariants as fault
use Rattle.hac_top.specs.Attaching.{AttachesStore}
use Rattle.hac_top.specs.Crashes.{IsOpened, opening_outcome, opening_result}
use Rattle.hac_top.specs.Ends.{reports_disk}
use Rattle.hac_top.specs.Storing.{IsUsable}
use Rattle.hac_top.specs.declared.status.Status.{Status}
use Rattle.hac_model.specs.Script.CommandLine as line

-- the file was attached, and nothing was attached behind it
pub attach-then : {E : Type 0} (old mid new : Option (List (List ℕ × Bool))) (options : line.Options) (result : Result Unit E) → Attaches old options.store options.fresh result mid → is_err result ≡ false → new ≡ mid → AttachesStore old options new
attach-then None mid new options result h fine same = same ∙ h
attach-then (Some names) mid new options (Ok done) h fine same = same ∙ h
attach-then (Some names) mid new options (Err failed) h fine same = absurd cc

-- what a call says where it succeeds
pub where-fine : {E : Type 0} (P : Type 0) (result : Result Unit E) → is_err result ≡ false → OnOk result P → P
where-fine P (Ok done) fine h = h
where-fine P (Err failed) fine h = absurd cc

-- a fault of the disk is reported as one
same-fault : (r : Result Seen StoreFault) → faults.is_disk_fault r ≡ reports_disk (opening_result r)
same-fault (Ok opened) = refl
same-fault (Err fault.Disk) = refl
same-fault (Err (fault.NotStore at)) = refl
same-fault (Err fault.AlreadyStore) = refl
same-fault (Err fault.Full) = refl
same-fault (Err fault.Memory) = refl

pub opened-faults : (r : Result Seen StoreFault) (opened : Result Seen Status) (old mid new : ℕ) → opened ≡ opening_result r → ReportsFault (faults.is_disk_fault r) mid new → mid ≡ old → ReportsFault (reports_disk opened) old new
opened-faults r opened old mid new is reported none =
    subst (λ (o : Result Seen Status). ReportsFault (reports_disk o) old new) (sym is)
    (subst (λ (b : Bool). ReportsFault b old new) (same-fault r) (subst (λ (n : ℕ). ReportsFault (faults.is_disk_fault r) n new) none reported))

-- what the store on the file is
one-opened : (r : Result Seen StoreFault) (kept : Result Setting ℕ) → store.Opens r kept → (r ≡ Err fault.AlreadyStore → ⊥) × (r ≡ Err fault.Full → ⊥) → IsOpened (opening_result r) (opening_outcome false kept)
one-opened (Ok opened) kept h kinds = ap (opening_outcome false) h
one-opened (Err fault.Disk) kept h kinds = λ never. absurd never
one-opened (Err (fault.NotStore at)) kept h kinds = λ of_file. ap (opening_outcome false) h
one-opened (Err fault.AlreadyStore) kept h kinds = absurd (kinds.0 refl)
one-opened (Err fault.Full) kept h kinds = absurd (kinds.1 refl)
one-opened (Err fault.Memory) kept h kinds = λ never. absurd never

pub loaded-opened : (told : Option (List ℕ)) (fresh : Bool) (r : Result Seen StoreFault) (opened : Result Seen Status) → opened ≡ opening_result r → fresh ≡ false → IfSome told (λ file. store.Opens r (held file)) →
    (r ≡ Err fault.AlreadyStore → ⊥) × (r ≡ Err fault.Full → ⊥) → IfSome told (λ file. IsOpened opened (opening_outcome fresh (held file)))
loaded-opened None fresh r opened is old_one h kinds = search rules
loaded-opened (Some file) fresh r opened is old_one h kinds =
    subst (λ (o : Result Seen Status). IsOpened o (opening_outcome fresh (held file))) (sym is)
    (subst (λ (b : Bool). IsOpened (opening_result r) (opening_outcome b (held file))) (sym old_one) (one-opened r (held file) h kinds))

-- what was made, or what is in the way
one-new : (r : Result Seen StoreFault) (kept : Result Setting ℕ) → IfOk r (λ made. made ≡ first_store) → OnOk r (IsErr kept) → (r ≡ Err fault.AlreadyStore → IsOk kept) →
    ((at : ℕ) → r ≡ Err (fault.NotStore at) → ⊥) × (r ≡ Err fault.Full → ⊥) → IsOpened (opening_result r) (opening_outcome true kept)
one-new (Ok made) (Ok setting) first none taken kinds = absurd cc
one-new (Ok made) (Err at) first none taken kinds = ap (λ (st : Seen). Ok st.setting) (sym first)
one-new (Err fault.Disk) kept first none taken kinds = λ never. absurd never
one-new (Err (fault.NotStore at)) kept first none taken kinds = absurd (kinds.0 at refl)
one-new (Err fault.AlreadyStore) (Ok setting) first none taken kinds = λ of_file. refl
one-new (Err fault.AlreadyStore) (Err at) first none taken kinds = let never = taken refl in absurd cc
one-new (Err fault.Full) kept first none taken kinds = absurd (kinds.1 refl)
one-new (Err fault.Memory) kept first none taken kinds = λ never. absurd never

pub made-opened : (told : Option (List ℕ)) (fresh : Bool) (r : Result Seen StoreFault) (opened : Result Seen Status) → opened ≡ opening_result r → fresh ≡ true → IfOk r (λ made. made ≡ first_store) →
    IfSome told (λ file. OnOk r (IsErr (held file))) → IfSome told (λ file. r ≡ Err fault.AlreadyStore → IsOk (held file)) →
    ((at : ℕ) → r ≡ Err (fault.NotStore at) → ⊥) × (r ≡ Err fault.Full → ⊥) → IfSome told (λ file. IsOpened opened (opening_outcome fresh (held file)))
made-opened None fresh r opened is new_one first none taken kinds = search rules
made-opened (Some file) fresh r opened is new_one first none taken kinds =
    subst (λ (o : Result Seen Status). IsOpened o (opening_outcome fresh (held file))) (sym is)
    (subst (λ (b : Bool). IsOpened (opening_result r) (opening_outcome b (held file))) (sym new_one) (one-new r (held file) first none taken kinds))

-- and for what the disk stands
one-new-stands : (P : Setting → Type 0) (r : Result Seen StoreFault) → IfOk r (λ made. made ≡ first_store) → OnOk r (P new_setting) → IfOk (opening_result r) (λ opened. P opened.setting)
one-new-stands P (Ok made) first h = subst (λ (st : Seen). P st.setting) (sym first) h
one-new-stands P (Err failed) first h = search rules

pub made-stands : (P : Setting → Type 0) (told : Option (List ℕ)) (r : Result Seen StoreFault) (opened : Result Seen Status) → opened ≡ opening_result r → IfOk r (λ made. made ≡ first_store) → IfSome told (λ file. OnOk r (P new_setting)) → IfSome told (λ file. IfOk opened (λ opened. P opened.setting))
made-stands P None r opened is first h = search rules
made-stands P (Some file) r opened is first h = subst (λ (o : Result Seen Status). IfOk o (λ opened. P opened.setting)) (sym is) (one-new-stands P r first h)

one-stands : (P : Setting → Type 0) (r : Result Seen StoreFault) → IfOk r (λ opened. P opened.setting) → IfOk (opening_result r) (λ opened. P opened.setting)
one-stands P (Ok opened) h = h
one-stands P (Err failed) h = search rules

pub loaded-stands : (P : Setting → Type 0) (told : Option (List ℕ)) (r : Result Seen StoreFault) (opened : Result Seen Status) → opened ≡ opening_result r → IfSome told (λ file. IfOk r (λ opened. P opened.setting)) → IfSome told (λ file. IfOk opened (λ opened. P opened.setting))
loaded-stands P None r opened is h = search rules
loaded-stands P (Some file) r opened is h = subst (λ (o : Result Seen Status). IfOk o (λ opened. P opened.setting)) (sym is) (one-stands P r h)

-- and it can go on
one-usable : (told : DiskSeen) (r : Result Seen StoreFault) → IfOk r (λ store. store.broken ≡ false) → IfOk r (λ store. Bears told store) → IfOk (opening_result r) (IsUsable told)
one-usable told (Ok opened) intact place = record { intact = intact; place = place }
one-usable told (Err failed) intact place = search rules

opened-usable : (told : DiskSeen) (r : Result Seen StoreFault) (opened : Result Seen Status) → opened ≡ opening_result r → IfOk r (λ store. store.broken ≡ false) → IfOk r (λ store. Bears told store) → IfOk opened (IsUsable told)
opened-usable told r opened is intact place = subst (λ (o : Result Seen Status). IfOk o (IsUsable told)) (sym is) (one-usable told r intact place)

pub made-usable : (told : DiskSeen) (r : Result Seen StoreFault) (opened : Result Seen Status) → opened ≡ opening_result r → IfOk r (λ made. made ≡ first_store) → IfOk r (λ store. Bears told store) → IfOk opened (IsUsable told)
made-usable told r opened is first place = opened-usable told r opened is (intact r first) place
  where
    intact : (r : Result Seen StoreFault) → IfOk r (λ made. made ≡ first_store) → IfOk r (λ store. store.broken ≡ false)
    intact (Ok made) first = ap (λ (st : Seen). st.broken) first
    intact (Err failed) first = search rules

pub loaded-usable : (told : DiskSeen) (r : Result Seen StoreFault) (opened : Result Seen Status) → opened ≡ opening_result r → IfOk r (λ store. (store.broken ≡ false) × IsValid store.setting.state) → IfOk r (λ store. Bears told store) → IfOk opened (IsUsable told)
loaded-usable told r opened is sound place = opened-usable told r opened is (intact r sound) place
  where
    intact : (r : Result Seen StoreFault) → IfOk r (λ store. (store.broken ≡ false) × IsValid store.setting.state) → IfOk r (λ store. store.broken ≡ false)
    intact (Ok loaded) sound = sound.0
    intact (Err failed) sound = search rules

err-value : (Q : Type 0) (r : Result Setting Status) → Q → IfErr r (λ status. Q)
err-value Q (Ok z) q = search rules
err-value Q (Err status) q = q

-- a store was loaded, so nothing was written
pub loaded-quiet : (told : Option (List ℕ)) (fresh : Bool) (old new : DiskSeen) → IsQuiet old new → IfSome told (λ file. IfErr (opening_outcome fresh (held file)) (λ status. IsQuiet old new))
loaded-quiet None fresh old new quiet = search rules
loaded-quiet (Some file) fresh old new quiet = err-value (IsQuiet old new) (opening_outcome fresh (held file)) quiet

one-made : (kept : Result Setting ℕ) (old mid new : DiskSeen) → IsQuiet old mid → (IsOk kept → IsQuiet mid new) → IfErr (opening_outcome true kept) (λ status. IsQuiet old new)
one-made (Ok setting) old mid new first second = quiet_twice old mid new first (second refl)
one-made (Err at) old mid new first second = search rules

-- a store was to be made where there is one
pub made-quiet : (told : Option (List ℕ)) (fresh : Bool) (old mid new : DiskSeen) → IsQuiet old mid → fresh ≡ true → IfSome told (λ file. IsOk (held file) → IsQuiet mid new) → IfSome told (λ file. IfErr (opening_outcome fresh (held file)) (λ status. IsQuiet old new))
made-quiet None fresh old mid new first new_one second = search rules
made-quiet (Some file) fresh old mid new first new_one second =
    subst (λ (b : Bool). IfErr (opening_outcome b (held file)) (λ status. IsQuiet old new)) (sym new_one) (one-made (held file) old mid new first second)
