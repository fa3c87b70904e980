-- How a run ends that comes to no store, as a space can't be attached; and what it leaves where it comes to one.
use Rattle.std.proofs.Common.{◌≡◌, ℕ, ◌≤◌, ◌+◌, Bool, true, List, length, Option, None, Some, Ok, Err, refl, subst, inl, inr, arith, rules}
use Rattle.std.specs.Prelude.{⊤, Result, IfOk, IfErr}
use Rattle.std.specs.Option.{IfSome}
use Rattle.hac_disk.specs.Images.{IsQuiet}
use Rattle.hac_disk.specs.Seen.{DiskSeen, IsLawful}
use Rattle.hac_model.specs.Run.Play.{Given, Setting}
use Rattle.hac_model.specs.Script.CommandLine.{Options, Space}
use Rattle.hac_outside.specs.Causes.{ReportsFault}
use Rattle.hac_store.specs.Held.{held}
use Rattle.hac_store.specs.Loading.{loading}
use Rattle.sem_mounts.specs.Seen.{CountsFault, SpacesSeen, is_attach_failed}
use Rattle.hac_top.specs.Asking.{IfTold, StayAttached}
use Rattle.sem_mounts.specs.declared.faults.AttachFault.{AttachFault}
use Rattle.sem_mounts.specs.declared.faults.AttachFault.TheVariants as attach
use Rattle.hac_top.specs.Attaching.{AttachesStore, LeavesAttached, MayAttach}
use Rattle.hac_top.specs.Crashes.{IsOfFile, StopsOpening, opening_outcome}
use Rattle.hac_top.specs.Ends.{IsOpenStatus, IsStoreStatus, is_bad_space, is_disk_fault}
use Rattle.hac_top.specs.Run.{Ends, EndsSo, IfPlays, IsFaultless, Outside, Ran, RunsAnd, RunsFrom, TakesWithin, once_open}
use Rattle.hac_top.specs.Spaces.{HasAttached, LeavesSpaces, StopsAttaching, attach_status}
use Rattle.hac_top.specs.Takes.{Takes}
use Rattle.hac_top.specs.declared.status.Status.{Status}
use Rattle.hac_top.specs.declared.status.Status.TheVariants.{Usage, DiskFault, Memory, BadSpace}
use Rattle.hac_top.proofs.OpenedLemmas.{Opening, opens-quiet, ran-none, told-given, told-none}
use Rattle.hac_top.proofs.WriteLemmas.{untouched}

-- a run that comes to its store ends otherwise than at its words or at a space
pub opened-own : (status : Status) → IsOpenStatus status → IsStoreStatus status
opened-own Usage opened = absurd opened
opened-own (BadSpace which line) opened = absurd opened
opened-own other opened = search rules

pub unopened-own : (status : Status) → StopsOpening status → IsStoreStatus status
unopened-own Usage stops = absurd stops
unopened-own (BadSpace which line) stops = absurd stops
unopened-own other stops = search rules

-- a run on a store leaves its file attached
pub opened-attached : (status : Status) (old : Option (List (List ℕ × Bool))) (asked : Options) (new : Option (List (List ℕ × Bool))) → IsOpenStatus status → AttachesStore old asked new → LeavesAttached status old asked new
opened-attached (BadSpace which line) old asked new opened attaches = absurd opened
opened-attached DiskFault old asked new opened attaches = inr attaches
opened-attached Memory old asked new opened attaches = inr attaches
opened-attached other old asked new opened attaches = attaches

pub unopened-attached : (status : Status) (old : Option (List (List ℕ × Bool))) (asked : Options) (new : Option (List (List ℕ × Bool))) → StopsOpening status → MayAttach old asked new →
    ((status ≡ DiskFault → ⊥) → AttachesStore old asked new) → LeavesAttached status old asked new
unopened-attached (BadSpace which line) old asked new stops may attaches = absurd stops
unopened-attached DiskFault old asked new stops may attaches = may
unopened-attached Memory old asked new stops may attaches = may
unopened-attached other old asked new stops may attaches = attaches (λ never. cc)

-- once all are attached a run doesn't end at a space
pub own-spaces : (status : Status) (files : List Space) (old mid new : SpacesSeen) (untouched : Type 0) → IsStoreStatus status → HasAttached files old mid → StayAttached mid new → LeavesSpaces status files old new untouched
own-spaces (BadSpace which line) files old mid new untouched own has stay = absurd own
own-spaces Memory files old mid new untouched own has stay = inr (mid, has, stay)
own-spaces other files old mid new untouched own has stay = (mid, has, stay)

-- a run that can't attach one says so, or memory ran out
pub stopped-spaces : (status : Status) (files : List Space) (old new : SpacesSeen) (untouched : Type 0) → untouched → StopsAttaching files old new status → LeavesSpaces status files old new untouched
stopped-spaces status files old new untouched still stops = by stops.fault stops.status_is
  where
    by : (fault : AttachFault) → status ≡ attach_status (length stops.front + 1) fault → LeavesSpaces status files old new untouched
    by attach.Failed is = rw is (subst (StopsAttaching files old new) is stops, still)
    by (attach.BadCatalogue line) is = rw is (subst (StopsAttaching files old new) is stops, still)
    by attach.Memory is = rw is (inl (inr (subst (StopsAttaching files old new) is stops), still))

-- such a status
abbrev pub IsUnattached : Status → Type 0
IsUnattached (BadSpace which line) = ⊤
IsUnattached Memory = ⊤
IsUnattached other = ⊥

pub is-unattached : (files : List Space) (old new : SpacesSeen) (status : Status) → StopsAttaching files old new status → IsUnattached status
is-unattached files old new status stops = by stops.fault stops.status_is
  where
    by : (fault : AttachFault) → status ≡ attach_status (length stops.front + 1) fault → IsUnattached status
    by attach.Failed is = rw is tt
    by (attach.BadCatalogue line) is = rw is tt
    by attach.Memory is = rw is tt

pub within-same : (left : Option (List ℕ)) → TakesWithin left left
within-same None = tt
within-same (Some bytes) = omega arith

pub unattached-usage : (status : Status) → IsUnattached status → status ≡ Usage → ⊥
unattached-usage status un is = subst IsUnattached is un

-- it did nothing else
pub unattached-ends : (status : Status) (before : Outside) → IsUnattached status → Ends status before before
unattached-ends (BadSpace which line) before un = record { reads = refl; writes = refl; within = within-same before.source.left; passed = λ _ none. none }
unattached-ends Memory before un = record { reads = refl; writes = refl; within = within-same before.source.left; passed = λ _ none. none }
unattached-ends other before un = absurd un

pub unattached-disk : (status : Status) (faults : ℕ) → IsUnattached status → ReportsFault (is_disk_fault status) faults faults
unattached-disk (BadSpace which line) faults un = refl
unattached-disk Memory faults un = refl
unattached-disk other faults un = absurd un

pub unattached-names : (status : Status) (names : Option (List (List ℕ × Bool))) (asked : Options) → IsUnattached status → LeavesAttached status names asked names
unattached-names (BadSpace which line) names asked un = refl
unattached-names Memory names asked un = inl refl
unattached-names other names asked un = absurd un

of-no-file : (status : Status) → IsUnattached status → IsOfFile status → ⊥
of-no-file (BadSpace which line) un is = is
of-no-file Memory un is = is
of-no-file other un is = absurd un

pub unattached-file : (status : Status) → IsUnattached status → (fresh : Bool) (told : Option (List ℕ)) → IfSome told (λ file. IsOfFile status → opening_outcome fresh (held file) ≡ Err status)
unattached-file status un fresh None = search rules
unattached-file status un fresh (Some file) = λ is. absurd (of-no-file status un is)

ends-so : (wanted status : Status) → IsUnattached status → EndsSo wanted status
ends-so wanted (BadSpace which line) un = inr (inl refl)
ends-so wanted Memory un = inr (inr (inr refl))
ends-so wanted other un = absurd un

-- what holds of a run under a premise holds of it under more
ran-more : (fresh : Bool) (given : Given) (status : Status) (setting : Setting) (script : List ℕ) (before after : Outside) (old new : DiskSeen) (less more : Type 0) → (more → less) →
    Ran fresh given status setting script before after old new less → Ran fresh given status setting script before after old new more
ran-more fresh given status setting script before after old new less more leads ran = record { played = ran.played; moments = ran.moments; begun = ran.begun; complete = λ none. ran.complete (leads none) }

-- what holds of a run that goes on from a store, once its spaces were attached and given another premise
pub ran-given : (old new : DiskSeen) (spaces mid left : SpacesSeen) → mid.faults ≡ spaces.faults → (asked : Options) (less more : Type 0) → (more → less) →
    (before after : Outside) (status : Status) (Also : Given → Setting → List ℕ → Type 0) → RunsAnd old new mid left asked less before after status Also → RunsAnd old new spaces left asked more before after status Also
ran-given old new spaces mid left same asked less more leads before after status Also ran =
    told-given asked.fresh asked.tick (λ opening given setting script. says less opening given setting script × Also given setting script) (λ opening given setting script. says more opening given setting script × Also given setting script)
    (λ opening given setting script both.
    (ran-more asked.fresh given status setting script (once_open opening before) after old new (less × quiet) (more × quiet) (λ none. (leads none.0, none.1)) both.0, both.1)) spaces mid left same old.contents before.source.left ran
  where
    quiet : Type 0
    quiet = IsFaultless before after old.faults new.faults

    says : Type 0 → ℕ → Given → Setting → List ℕ → Type 0
    says premise opening given setting script = Ran asked.fresh given status setting script (once_open opening before) after old new (premise × quiet)

-- a space that couldn't be attached was counted, and no fault was before it
pub stopped-later : (files : List Space) (old new : SpacesSeen) (status : Status) → StopsAttaching files old new status → old.faults ≤ new.faults
stopped-later files old new status stops = by stops.fault stops.cause
  where
    by : (fault : AttachFault) → CountsFault (is_attach_failed {A = Unit {0}} (Err fault)) old.faults new.faults → old.faults ≤ new.faults
    by attach.Failed cause = cause.0.0
    by (attach.BadCatalogue line) cause = omega (arith, cause.0)
    by attach.Memory cause = omega (arith, cause.0)

pub unattached-quiet : {I O : Type 0} (status : Status) → IsUnattached status → (fresh : Bool) (disk : DiskSeen) (input : I) (output : O) (told : Option (List ℕ)) →
    IfSome told (λ file. IfErr (opening_outcome fresh (held file)) (λ wanted. EndsSo wanted status × IsQuiet disk disk × (input ≡ input) × (output ≡ output)))
unattached-quiet status un fresh disk input output None = search rules
unattached-quiet {I} {O} status un fresh disk input output (Some file) = by (opening_outcome fresh (held file))
  where
    by : (outcome : Result Setting Status) → IfErr outcome (λ wanted. EndsSo wanted status × IsQuiet disk disk × (input ≡ input) × (output ≡ output))
    by (Ok setting) = search rules
    by (Err wanted) = (ends-so wanted status un, untouched disk, refl, refl)

-- it answers nothing of the script, and a crash leaves what it would have gone on from
pub ran-unattached : (premise : Type 0) (status : Status) → IsUnattached status → (premise → is_bad_space status ≡ true → ⊥) → (asked : Options) (disk : DiskSeen) → IsLawful disk → (before : Outside) (old new : SpacesSeen) → old.faults ≤ new.faults →
    (Also : Given → Setting → List ℕ → Type 0) → ((given : Given) (setting : Setting) (script : List ℕ) → Also given setting script) → RunsAnd disk disk old new asked premise before before status Also
ran-unattached premise status un good asked disk lawful before old new later Also also = of-file disk.contents (opens-quiet asked.fresh disk disk lawful (untouched disk))
  where
    faultless : Type 0
    faultless = premise × IsFaultless before before disk.faults disk.faults

    says : ℕ → Setting → List ℕ → Type 0
    says opens setting script = IfTold old new asked.tick setting script (λ given. Ran asked.fresh given status setting script (once_open opens before) before disk disk faultless × Also given setting script)

    one : (opens : ℕ) (given : Given) (status : Status) → IsUnattached status → (premise → is_bad_space status ≡ true → ⊥) → (setting : Setting) (script : List ℕ) → Some script ≡ before.source.left →
        Opening asked.fresh disk disk setting →
        Ran asked.fresh given status setting script (once_open opens before) before disk disk faultless
    one opens given (BadSpace which line) un good setting script left_is opening =
        ran-none asked.fresh asked.tick disk disk lawful (λ _. untouched disk) (once_open opens before) before.probes given faultless (BadSpace which line) setting script left_is (omega arith) opening (λ done. tt) (λ never. never)
        (λ none. absurd (good none.0 refl))
    one opens given Memory un good setting script left_is opening =
        ran-none asked.fresh asked.tick disk disk lawful (λ _. untouched disk) (once_open opens before) before.probes given faultless Memory setting script left_is (omega arith) opening (λ done. tt) (λ never. never)
        (λ _. record { within = λ _. inr refl; past = λ _. inr refl })
    one opens given other un good setting script left_is opening = absurd un

    at : (opens : ℕ) (outcome : Result Setting Status) (script : List ℕ) → Some script ≡ before.source.left → IfOk outcome (Opening asked.fresh disk disk) → IfOk outcome (λ setting. says opens setting script)
    at opens (Err wanted) script left_is opening = search rules
    at opens (Ok setting) script left_is opening =
        told-none old new asked.tick setting script (λ given. Ran asked.fresh given status setting script (once_open opens before) before disk disk faultless × Also given setting script) later
        (λ given. (one opens given status un good setting script left_is opening, also given setting script))

    of-left : (file : List ℕ) (left : Option (List ℕ)) → left ≡ before.source.left → IfOk (opening_outcome asked.fresh (held file)) (Opening asked.fresh disk disk) →
        IfSome left (λ script. IfOk (opening_outcome asked.fresh (held file)) (λ setting. says (loading file) setting script))
    of-left file None left_is opening = search rules
    of-left file (Some script) left_is opening = at (loading file) (opening_outcome asked.fresh (held file)) script left_is opening

    of-file : (file : Option (List ℕ)) → IfSome file (λ f. IfOk (opening_outcome asked.fresh (held f)) (Opening asked.fresh disk disk)) →
        IfSome file (λ f. IfSome before.source.left (λ script. IfOk (opening_outcome asked.fresh (held f)) (λ setting. says (loading f) setting script)))
    of-file None opening = search rules
    of-file (Some f) opening = of-left f before.source.left refl opening

-- nothing was taken of the source
pub unattached-takes : (status : Status) (told : Option (List ℕ)) → IsUnattached status → Takes status told told
unattached-takes status None un = search rules
unattached-takes (BadSpace which line) (Some script) un = refl
unattached-takes Memory (Some script) un = (0, omega arith, refl)
unattached-takes other (Some script) un = absurd un

pub memory-takes : (asked : Option Options) (told : Option (List ℕ)) → IfPlays asked (λ asked. Takes Memory told told)
memory-takes None told = search rules
memory-takes (Some asked) told = λ _. unattached-takes Memory told tt

-- memory ran out before any space was attached
pub memory-quiet : {I O : Type 0} (asked : Option Options) (disk : DiskSeen) (input : I) (output : O) →
    IfSome asked (λ asked. IfSome disk.contents (λ file. IfErr (opening_outcome asked.fresh (held file)) (λ wanted. EndsSo wanted Memory × IsQuiet disk disk × (input ≡ input) × (output ≡ output))))
memory-quiet None disk input output = search rules
memory-quiet (Some asked) disk input output = unattached-quiet Memory tt asked.fresh disk input output disk.contents

pub memory-ran : (premise : Options → Type 0) (asked : Option Options) (disk : DiskSeen) → IsLawful disk → (before : Outside) (spaces : SpacesSeen) →
    IfPlays asked (λ asked. RunsFrom disk disk spaces spaces asked (premise asked) before before Memory)
memory-ran premise None disk lawful before spaces = search rules
memory-ran premise (Some asked) disk lawful before spaces = λ _. ran-unattached (premise asked) Memory tt (λ _ never. cc) asked disk lawful before spaces spaces (omega arith) (λ given setting script. ⊤) (λ given setting script. tt)

pub memory-spaces : (asked : Option Options) (spaces : SpacesSeen) (untouched : Type 0) → untouched → IfSome asked (λ asked. LeavesSpaces Memory asked.spaces spaces spaces untouched)
memory-spaces None spaces untouched still = search rules
memory-spaces (Some asked) spaces untouched still = inl (inl refl, still)

pub memory-attached : (asked : Option Options) (names : Option (List (List ℕ × Bool))) → IfSome asked (λ asked. LeavesAttached Memory names asked names)
memory-attached None names = search rules
memory-attached (Some asked) names = inl refl
