-- What a crash leaves while a store is opened, and how a run ends, given how it was opened.
use Rattle.std.proofs.Common.{◌≡◌, ◌⊎◌, ℕ, ◌+◌, ◌≤◌, true, false, Bool, List, [], length, refl, ap, sym, ◌∙◌, append-nil, subst, arith, rules, inl, inr}
use Rattle.std.specs.Prelude.{⊤, Option, None, Some, Result, Ok, Err, IfOk, IsErr}
use Rattle.std.specs.Option.{IfSome}
use Rattle.hac_disk.specs.Images.{IsQuiet, IsSettled, LeavesOnly, Only}
use Rattle.hac_disk.specs.Seen.{DiskSeen, IsLawful}
use Rattle.hac_disk.proofs.ContentsLemmas.{told-settled}
use Rattle.hac_disk.proofs.Moments.{quiet_leaves, then_run, weaken}
use Rattle.hac_outside.specs.Causes.{Rose, ReportsFault}
use Rattle.hac_model.specs.Run.Play.{AreAskable, Given, Setting, all_events, new_setting, play}
use Rattle.hac_model.specs.Script as Script
use Rattle.hac_model.specs.Script.CommandLine.{Options}
use Rattle.sem_mounts.specs.Seen.{Contents, SpacesSeen}
use Rattle.hac_top.specs.Asking.{AreMet, IfTold, faults_after, given_by}
use Rattle.hac_top.proofs.AskLemmas.{askable-none, met-none}
use Rattle.hac_model.specs.Tree.Sessions.{stored}
use Rattle.hac_model.specs.declared.events.Event.{Event}
use Rattle.hac_model.specs.declared.states.State.{State}
use Rattle.hac_store.specs.Held.{held}
use Rattle.hac_store.specs.Loading.{loading}
use Rattle.hac_store.specs.Stores.{IsNewOrNone, Stands}
use Rattle.hac_top.specs.Crashes.{Holds, IsOpened, IsTreeAfter, IsTreeOfAnswered, Reopens, StopsOpening, IsOfFile, opening_outcome}
use Rattle.hac_top.specs.Ends.{IsFinished, IsOpenStatus, is_disk_fault}
use Rattle.hac_top.specs.Run.{AnswersBy, Completes, Ends, HasBegun, IsFaultless, IsTreeOf, Outside, Plays, PlaysStore, PlaysTold, Ran, RunsAnd, once_open}
use Rattle.hac_top.specs.declared.status.Status.{Status}
use Rattle.hac_top.specs.declared.status.Status.TheVariants.{Done, SomeRefused, ReadFault, WriteFault, DiskFault, NotStore, Memory, TooLong, AlreadyStore}
use Rattle.hac_top.proofs.CrashLemmas.{all-answered, holds-weaker, reopens}
use Rattle.hac_top.proofs.GoesOn.{turns_of}
use Rattle.hac_top.proofs.LineLemmas.{both}
use Rattle.hac_top.proofs.RunLemmas.{goes-first, nothing-stops, play-nothing, plays-stop, state-is, turns-are}
use Rattle.hac_top.proofs.StoringLemmas.{told-since}
use Rattle.hac_top.proofs.WriteLemmas.{writes-nothing, writes-since}

-- a fact on the value that there is
if-value : {E : Type 0} {T : Type 0} (r : Result T E) (P : T → Type 0) → ((z : T) → r ≡ Ok z → P z) → IfOk r P
if-value (Ok z) P fact = fact z refl
if-value (Err e) P fact = search rules

-- the file reopens as what the run goes on from
file-reopens : (fresh : Bool) (file : List ℕ) (kept : Result Setting ℕ) → held file ≡ kept → (setting : Setting) → opening_outcome fresh kept ≡ Ok setting → Reopens fresh (λ s. s ≡ stored setting.state) file
file-reopens false file (Ok kept) is setting goes = record { kept = kept; is = is; state = let same : kept ≡ setting = cc in ap (λ (z : Setting). stored z.state) same }
file-reopens false file (Err at) is setting goes = absurd cc
file-reopens true file (Ok kept) is setting goes = absurd cc
file-reopens true file (Err at) is setting goes = λ other held_as. absurd (let never : Err at ≡ Ok other = sym is ∙ held_as in cc)

-- where a new store is made, the file holds none
no-store : (kept : Result Setting ℕ) (setting : Setting) → opening_outcome true kept ≡ Ok setting → IsErr kept × (setting ≡ new_setting)
no-store (Ok kept) setting goes = absurd cc
no-store (Err at) setting goes = (refl, cc)

-- what the run goes on from is all that a crash leaves while the store is opened
abbrev pub Opening : Bool → DiskSeen → DiskSeen → Setting → Type 0
Opening fresh old new setting = IsSettled old → LeavesOnly old new (Reopens fresh (λ s. s ≡ stored setting.state))

abbrev pub Opens : Bool → DiskSeen → DiskSeen → Type 0
Opens fresh old new = IfSome old.contents (λ file. IfOk (opening_outcome fresh (held file)) (Opening fresh old new))

begun : (fresh : Bool) (file : List ℕ) (old : DiskSeen) (setting : Setting) → IsLawful old → opening_outcome fresh (held file) ≡ Ok setting → Only file old.image → (c : List ℕ) → old.image_since old.moment c → Reopens fresh (λ s. s ≡ stored setting.state) c
begun fresh file old setting lawful goes only c left =
    subst (λ (xs : List ℕ). Reopens fresh (λ s. s ≡ stored setting.state) xs) (sym (only c (lawful.only_now c left))) (file-reopens fresh file (held file) refl setting goes)

opens : (fresh : Bool) (old new : DiskSeen) →
    ((file : List ℕ) → old.contents ≡ Some file → (setting : Setting) → opening_outcome fresh (held file) ≡ Ok setting → Only file old.image → LeavesOnly old new (Reopens fresh (λ s. s ≡ stored setting.state))) → Opens fresh old new
opens fresh old new each = by old.contents refl
  where
    by : (o : Option (List ℕ)) → old.contents ≡ o → IfSome o (λ file. IfOk (opening_outcome fresh (held file)) (Opening fresh old new))
    by None is = search rules
    by (Some file) is = if-value (opening_outcome fresh (held file)) (Opening fresh old new) (λ setting goes settled. each file is setting goes (told-settled old file is settled))

-- nothing was written
pub opens-quiet : (fresh : Bool) (old new : DiskSeen) → IsLawful old → IsQuiet old new → Opens fresh old new
opens-quiet fresh old new lawful quiet =
    opens fresh old new (λ file is setting goes only. quiet_leaves old new (Reopens fresh (λ s. s ≡ stored setting.state)) (begun fresh file old setting lawful goes only) quiet)

-- a new store was made, or part of it
pub opens-new : (old new : DiskSeen) → IfSome old.contents (λ file. IsErr (held file) → LeavesOnly old new (λ c. old.image c ⊎ IsNewOrNone c)) → Opens true old new
opens-new old new made =
    opens true old new (λ file is setting goes only.
    let none = no-store (held file) setting goes in
    weaken old new (λ c. old.image c ⊎ IsNewOrNone c) (Reopens true (λ s. s ≡ stored setting.state)) (of file setting goes only none.1)
    (subst (λ (o : Option (List ℕ)). IfSome o (λ f. IsErr (held f) → LeavesOnly old new (λ c. old.image c ⊎ IsNewOrNone c))) is made none.0))
  where
    of : (file : List ℕ) (setting : Setting) → opening_outcome true (held file) ≡ Ok setting → Only file old.image → setting ≡ new_setting → (c : List ℕ) → old.image c ⊎ IsNewOrNone c → Reopens true (λ s. s ≡ stored setting.state) c
    of file setting goes only is c (inl left) = subst (λ (xs : List ℕ). Reopens true (λ s. s ≡ stored setting.state) xs) (sym (only c left)) (file-reopens true file (held file) refl setting goes)
    of file setting goes only is c (inr new) = λ kept held_as. ap stored (new kept held_as) ∙ ap (λ (z : Setting). stored z.state) (sym is)

-- the file was attached before
pub opens-attached : (fresh : Bool) (old mid new : DiskSeen) → IsLawful old → IsQuiet old mid → Opens fresh mid new → Opens fresh old new
opens-attached fresh old mid new lawful quiet opened =
    opens fresh old new (λ file is setting goes only.
    let P = Reopens fresh (λ s. s ≡ stored setting.state) in
    let told : mid.contents ≡ Some file = quiet.same ∙ is in
    let settled : IsSettled mid = subst (λ (o : Option (List ℕ)). IfSome o (λ f. Only f mid.image)) (sym told) (λ c left. only c (quiet.images c left)) in
    let now : IfOk (opening_outcome fresh (held file)) (Opening fresh mid new) = subst (λ (o : Option (List ℕ)). IfSome o (λ f. IfOk (opening_outcome fresh (held f)) (Opening fresh mid new))) told opened in
    then_run old mid new P (quiet_leaves old mid P (begun fresh file old setting lawful goes only) quiet)
    (subst (λ (r : Result Setting Status). IfOk r (Opening fresh mid new)) goes now settled))

-- what has this, the other has
reopens-weaker : (fresh : Bool) (P Q : State → Type 0) (image : List ℕ) → ((s : State) → P s → Q s) → Reopens fresh P image → Reopens fresh Q image
reopens-weaker false P Q image then_q holds = holds-weaker P Q image then_q holds
reopens-weaker true P Q image then_q holds = λ kept is. then_q (stored kept.state) (holds kept is)

no-event : (s now : State) (events : List Event) → now ≡ s → IsTreeAfter s events now
no-event s now events same = record { count = 0; within = omega arith; is = same }

-- without a fault the script is played, unless memory runs out
completes : (given : Given) (status : Status) (setting : Setting) (script : List ℕ) (before after : Outside) → IsOpenStatus status → Plays given status setting script before after → Ends status before after →
    ¬ Rose before.source.faults after.source.faults → ¬ Rose before.sink.faults after.sink.faults → (is_disk_fault status ≡ true → ⊥) → Completes status script
completes given Done setting script before after opened plays ends read wrote disk = record { within = λ _. inl tt; past = λ long. absurd (omega (arith, long, plays.answers.within)) }
completes given SomeRefused setting script before after opened plays ends read wrote disk = record { within = λ _. inl tt; past = λ long. absurd (omega (arith, long, plays.answers.within)) }
completes given ReadFault setting script before after opened plays ends read wrote disk = absurd (read ends.reads.1)
completes given WriteFault setting script before after opened plays ends read wrote disk = absurd (wrote ends.writes.1)
completes given DiskFault setting script before after opened plays ends read wrote disk = absurd (disk refl)
completes given Memory setting script before after opened plays ends read wrote disk = record { within = λ _. inr refl; past = λ _. inr refl }
completes given TooLong setting script before after opened plays ends read wrote disk = record { within = λ few. absurd (omega (arith, few, plays.answers.longer)); past = λ _. inl refl }
completes given other setting script before after opened plays ends read wrote disk = absurd opened

-- where commands met nothing
pub told-none : (old new : SpacesSeen) (tick : ℕ) (setting : Setting) (bytes : List ℕ) (P : Given → Type 0) → old.faults ≤ new.faults → ((given : Given) → P given) → IfTold old new tick setting bytes P
told-none old new tick setting bytes P later holds = by new.contents
  where
    by : (o : Option Contents) → IfSome o (λ c. (met : List (Option (List ℕ))) × AreMet old new (given_by c met tick) setting bytes × P (given_by c met tick))
    by None = search rules
    by (Some c) = ([], record { askable = askable-none c tick setting (Script.script bytes); counted = later; none = λ _. refl }, holds (given_by c [] tick))

-- what is said of a run whose spaces were attached before, given what follows from it
pub told-given : (fresh : Bool) (tick : ℕ) (P R : ℕ → Given → Setting → List ℕ → Type 0) →
    ((opening : ℕ) (given : Given) (setting : Setting) (script : List ℕ) → P opening given setting script → R opening given setting script) →
    (old mid new : SpacesSeen) → mid.faults ≡ old.faults → (seen left : Option (List ℕ)) →
    IfSome seen (λ file. IfSome left (λ script. IfOk (opening_outcome fresh (held file)) (λ setting. IfTold mid new tick setting script (λ given. P (loading file) given setting script)))) →
    IfSome seen (λ file. IfSome left (λ script. IfOk (opening_outcome fresh (held file)) (λ setting. IfTold old new tick setting script (λ given. R (loading file) given setting script))))
told-given fresh tick P R then_r old mid new same None left told = search rules
told-given fresh tick P R then_r old mid new same (Some file) None told = search rules
told-given fresh tick P R then_r old mid new same (Some file) (Some script) told = by (opening_outcome fresh (held file)) told
  where
    of : (setting : Setting) (o : Option Contents) → IfSome o (λ c. (met : List (Option (List ℕ))) × AreMet mid new (given_by c met tick) setting script × P (loading file) (given_by c met tick) setting script) →
        IfSome o (λ c. (met : List (Option (List ℕ))) × AreMet old new (given_by c met tick) setting script × R (loading file) (given_by c met tick) setting script)
    of setting None told = search rules
    of setting (Some c) (met, are, told) = (
      met,
      record { askable = are.askable; counted = subst (λ (n : ℕ). faults_after n met ≤ new.faults) same are.counted; none = λ quiet. are.none (λ rose. quiet (subst (λ (n : ℕ). Rose n new.faults) same rose)) },
      then_r (loading file) (given_by c met tick) setting script told,
    )

    by : (r : Result Setting Status) → IfOk r (λ setting. IfTold mid new tick setting script (λ given. P (loading file) given setting script)) → IfOk r (λ setting. IfTold old new tick setting script (λ given. R (loading file) given setting script))
    by (Err wanted) told = search rules
    by (Ok setting) told = of setting new.contents told

-- a disk whose count hasn't risen hasn't failed
no-disk : (failed : Bool) (before now : ℕ) → ReportsFault failed before now → ¬ Rose before now → failed ≡ true → ⊥
no-disk true before now told none is = none told.1
no-disk false before now told none is = cc

-- a run that never began
not-begun : (ends : Status) (before : Outside) → (IsFinished ends → ⊥) → HasBegun ends before before → ⊥
not-begun ends before unfinished (inl taken) = taken refl
not-begun ends before unfinished (inr (inl written)) = written refl
not-begun ends before unfinished (inr (inr finished)) = unfinished finished

-- a store was opened
module _ (fresh : Bool) (tick : ℕ) (old mid new : DiskSeen) (lawful : IsLawful new) (setting : Setting) (before after : Outside) (begun : ℕ) (spaces left : SpacesSeen) (status : Status)
    (plays : PlaysStore mid new tick setting before after spaces left status) (quiet : mid.faults ≡ old.faults) (still : fresh ≡ false → IsQuiet old mid) where
  ran-from : (given : Given) (script : List ℕ) (opens : ℕ) → before.probes ≤ begun + opens → Stands mid setting → Opening fresh old mid setting → PlaysTold given mid new setting script before after status →
      Ran fresh given status setting script (once_open opens (record before { probes = begun })) after old new (⊤ × IsFaultless before after old.faults new.faults)
  ran-from given script opens few stands opening told =
      let played = told.played in
      let moments = told.moments in
      let events = all_events (play given setting script) in
      record {
        played = record {
          plays = record {
            replies = played.plays.replies;
            whole = played.plays.whole;
            prompt = played.plays.prompt;
            answers = played.plays.answers;
            asks = omega (arith, few, played.plays.asks);
          };
          wrote = λ kept. writes-since old mid new status setting (play given setting script) played.plays.replies.done (still kept) played.wrote;
          reopens = λ _ c left. reopens fresh (IsTreeOfAnswered (stored setting.state) (play given setting script) played.plays.replies.done) c (played.reopens stands c left);
          kept = λ _. played.kept stands;
        };
        moments = λ settles.
            then_run old mid new (Reopens fresh (IsTreeOf given setting script))
            (weaken old mid (Reopens fresh (λ s. s ≡ stored setting.state)) (Reopens fresh (IsTreeOf given setting script))
            (λ c holds. reopens-weaker fresh (λ s. s ≡ stored setting.state) (IsTreeOf given setting script) c (λ s same. no-event (stored setting.state) s events same) holds) (opening settles))
            (weaken mid new (Holds (IsTreeOf given setting script)) (Reopens fresh (IsTreeOf given setting script)) (λ c holds. reopens fresh (IsTreeOf given setting script) c holds) (moments stands));
        begun = λ _ _ c left.
            let run = moments stands in
            run.each c (lawful.counts_now mid.moment c run.later left);
        complete = λ none.
            completes given status setting script before after plays.opened played.plays plays.ends none.1.0 none.1.1
            (no-disk (is_disk_fault status) old.faults new.faults (told-since (is_disk_fault status) old.faults mid.faults new.faults quiet plays.reported) none.1.2);
      }

  -- the faults that it met are those of the script
  ran-met : (c : Contents) (script : List ℕ) → AreAskable (given_by c plays.met tick) setting (Script.script script) → AreMet spaces left (given_by c plays.met tick) setting script
  ran-met c script askable =
      let counted : faults_after spaces.faults plays.met ≤ left.faults = omega (arith, plays.asked.count) in
      record { askable = askable; counted = counted; none = met-none spaces.faults left.faults plays.met counted }

  -- the same and what else is known of it
  module _ (Q : Given → Setting → List ℕ → Type 0) where
    abbrev Says : ℕ → Setting → List ℕ → Given → Type 0
    Says opens z script given =
        Ran fresh given status z script (once_open opens (record before { probes = begun })) after old new (⊤ × IsFaultless before after old.faults new.faults) × Q given z script

    ran-told : (opens : ℕ) → before.probes ≤ begun + opens → (script : Option (List ℕ)) (o : Option Contents) →
        IfSome o (λ c. IfSome script (λ s. PlaysTold (given_by c plays.met tick) mid new setting s before after status)) →
        IfSome o (λ c. IfSome script (λ s. Q (given_by c plays.met tick) setting s)) → Stands mid setting → Opening fresh old mid setting →
        IfSome script (λ s. IfSome o (λ c. (met : List (Option (List ℕ))) × AreMet spaces left (given_by c met tick) setting s × Says opens setting s (given_by c met tick)))
    ran-told opens few None o told other stands opening = search rules
    ran-told opens few (Some s) None told other stands opening = search rules
    ran-told opens few (Some s) (Some c) told other stands opening = (plays.met, ran-met c s told.askable, (ran-from (given_by c plays.met tick) s opens few stands opening told, other))

    pub ran-opened-with : (file : Option (List ℕ)) → IfSome file (λ f. opening_outcome fresh (held f) ≡ Ok setting) → IfSome file (λ f. before.probes ≤ begun + loading f) → IfSome file (λ _. Stands mid setting) →
        IfSome file (λ f. IfOk (opening_outcome fresh (held f)) (Opening fresh old mid)) → IfSome spaces.contents (λ c. IfSome before.source.left (λ s. Q (given_by c plays.met tick) setting s)) →
        IfSome file (λ f. IfSome before.source.left (λ script. IfOk (opening_outcome fresh (held f)) (λ z. IfTold spaces left tick z script (Says (loading f) z script))))
    ran-opened-with None is few stands opening other = search rules
    ran-opened-with (Some f) is few stands opening other =
        both before.source.left (λ s. IfSome spaces.contents (λ c. (met : List (Option (List ℕ))) × AreMet spaces left (given_by c met tick) setting s × Says (loading f) setting s (given_by c met tick)))
        (λ s. ⊤) (λ script. IfOk (opening_outcome fresh (held f)) (λ z. IfTold spaces left tick z script (Says (loading f) z script)))
        (λ script ran _.
        subst (λ (r : Result Setting Status). IfOk r (λ z. IfTold spaces left tick z script (Says (loading f) z script))) (sym is)
        (subst (λ (o : Option Contents). IfSome o (λ c. (met : List (Option (List ℕ))) × AreMet spaces left (given_by c met tick) setting script × Says (loading f) setting script (given_by c met tick))) (sym plays.asked.stay.contents) ran))
        (ran-told (loading f) few before.source.left spaces.contents plays.told other stands (subst (λ (r : Result Setting Status). IfOk r (Opening fresh old mid)) is opening))
        (trivial before.source.left)
      where
        trivial : (l : Option (List ℕ)) → IfSome l (λ s. ⊤)
        trivial None = search rules
        trivial (Some s) = tt

  pub ran-opened : (file : Option (List ℕ)) → IfSome file (λ f. opening_outcome fresh (held f) ≡ Ok setting) → IfSome file (λ f. before.probes ≤ begun + loading f) → IfSome file (λ _. Stands mid setting) →
      IfSome file (λ f. IfOk (opening_outcome fresh (held f)) (Opening fresh old mid)) →
      IfSome file (λ f. IfSome before.source.left (λ script. IfOk (opening_outcome fresh (held f)) (λ z. IfTold spaces left tick z script (λ given.
      Ran fresh given status z script (once_open (loading f) (record before { probes = begun })) after old new (⊤ × IsFaultless before after old.faults new.faults) × ⊤))))
  ran-opened file is few stands opening = ran-opened-with (λ given z script. ⊤) file is few stands opening (nothing spaces.contents before.source.left)
    where
      nothing : (o : Option Contents) (l : Option (List ℕ)) → IfSome o (λ c. IfSome l (λ s. ⊤))
      nothing None l = search rules
      nothing (Some c) None = search rules
      nothing (Some c) (Some s) = tt

-- no store was opened: the run does nothing, and a crash leaves what it would have gone on from
module _ (fresh : Bool) (tick : ℕ) (old new : DiskSeen) (lawful : IsLawful new) (still : fresh ≡ false → IsQuiet old new) (before : Outside) (now : ℕ) where
  pub ran-none : (given : Given) (faultless : Type 0) (ends : Status) (setting : Setting) (script : List ℕ) → Some script ≡ before.source.left → now ≤ before.probes → Opening fresh old new setting → ((done : ℕ) → AnswersBy given ends setting script done (Some script)) →
      (IsFinished ends → ⊥) → (faultless → Completes ends script) → Ran fresh given ends setting script before (record before { probes = now }) old new faultless
  ran-none given faultless ends setting script left_is few opening answers unfinished complete =
      let goes = goes-first given given setting script false before.sink refl refl in
      let done = turns_of given setting goes.played goes.last in
      let all_is = turns-are given given setting script script false setting false before.sink before.sink goes in
      let state_is = state-is given given setting script script false setting false before.sink before.sink goes in
      record {
        played = record {
          plays = plays-stop given given setting ends Memory script script script false setting false before (record before { probes = now }) goes left_is (λ none. none) (nothing-stops script script refl) (answers (length done)) (λ n _. omega (arith, few));
          wrote = λ kept. writes-nothing old new ends setting (play given setting script) done (still kept) (append-nil (play given setting []) ∙ play-nothing given setting);
          reopens = λ settles c left.
              let run = opening settles in
              reopens-weaker fresh (λ s. s ≡ stored setting.state) (IsTreeOfAnswered (stored setting.state) (play given setting script) (length done)) c
              (λ s same. all-answered (stored setting.state) s (play given setting script) done (play given setting script) all_is (same ∙ state_is)) (run.each c (lawful.counts_now old.moment c run.later left));
          kept = λ _ finished. absurd (unfinished finished);
        };
        moments = λ settles.
            weaken old new (Reopens fresh (λ s. s ≡ stored setting.state)) (Reopens fresh (IsTreeOf given setting script))
            (λ c holds. reopens-weaker fresh (λ s. s ≡ stored setting.state) (IsTreeOf given setting script) c (λ s same. no-event (stored setting.state) s (all_events (play given setting script)) same) holds) (opening settles);
        begun = λ _ begun. absurd (not-begun ends before unfinished begun);
        complete = complete;
      }

module _ (asked : Options) (old new : DiskSeen) (lawful : IsLawful new) (still : asked.fresh ≡ false → IsQuiet old new) (before : Outside) (now : ℕ) (spaces : SpacesSeen) where
  -- and whatever else is known of it
  pub ran-unopened : (Also : Given → Setting → List ℕ → Type 0) → ((given : Given) (setting : Setting) (script : List ℕ) → Also given setting script) → (ends : Status) → StopsOpening ends → ReportsFault (is_disk_fault ends) old.faults new.faults →
      IfSome old.contents (λ f. IsOpened (Err ends) (opening_outcome asked.fresh (held f))) → IfSome old.contents (λ f. now ≤ before.probes + loading f) →
      IfSome old.contents (λ f. IfOk (opening_outcome asked.fresh (held f)) (Opening asked.fresh old new)) →
      RunsAnd old new spaces spaces asked ⊤ before (record before { probes = now }) ends Also
  ran-unopened Also also ends why told = file old.contents
    where
      says : ℕ → Setting → List ℕ → Given → Status → Type 0
      says opens setting script given ends =
          Ran asked.fresh given ends setting script (once_open opens before) (record before { probes = now }) old new (⊤ × IsFaultless before before old.faults new.faults)

      none : (opens : ℕ) → now ≤ before.probes + opens → (given : Given) (ends : Status) (setting : Setting) (script : List ℕ) → Some script ≡ before.source.left → Opening asked.fresh old new setting → ((done : ℕ) → AnswersBy given ends setting script done (Some script)) → (IsFinished ends → ⊥) →
          (⊤ × IsFaultless before before old.faults new.faults → Completes ends script) → says opens setting script given ends
      none opens few given ends setting script left_is opening =
          ran-none asked.fresh asked.tick old new lawful still (once_open opens before) now given (⊤ × IsFaultless before before old.faults new.faults) ends setting script left_is few opening

      by : (opens : ℕ) → now ≤ before.probes + opens → (given : Given) (ends : Status) → StopsOpening ends → ReportsFault (is_disk_fault ends) old.faults new.faults → (setting : Setting) (script : List ℕ) → Some script ≡ before.source.left → (IsOfFile ends → Ok setting ≡ Err ends) → Opening asked.fresh old new setting →
          says opens setting script given ends
      by opens few given DiskFault why told setting script left_is tells opening = none opens few given DiskFault setting script left_is opening (λ done. tt) (λ never. never) (λ none. absurd (none.1.2 told.1))
      by opens few given Memory why told setting script left_is tells opening = none opens few given Memory setting script left_is opening (λ done. tt) (λ never. never) (λ _. record { within = λ _. inr refl; past = λ _. inr refl })
      by opens few given (NotStore at) why told setting script left_is tells opening = absurd (let never : Ok setting ≡ Err (NotStore at) = tells tt in cc)
      by opens few given AlreadyStore why told setting script left_is tells opening = absurd (let never : Ok setting ≡ Err AlreadyStore = tells tt in cc)
      by opens few given other why told setting script left_is tells opening = absurd why

      at : (opens : ℕ) → now ≤ before.probes + opens → (r : Result Setting Status) (script : List ℕ) → Some script ≡ before.source.left → IsOpened (Err ends) r → IfOk r (Opening asked.fresh old new) →
          IfOk r (λ z. IfTold spaces spaces asked.tick z script (λ given. says opens z script given ends × Also given z script))
      at opens few (Err wanted) script left_is opened opening = search rules
      at opens few (Ok setting) script left_is opened opening =
          told-none spaces spaces asked.tick setting script (λ given. says opens setting script given ends × Also given setting script) (omega arith) (λ given. (by opens few given ends why told setting script left_is opened opening, also given setting script))

      of : (f : List ℕ) → IsOpened (Err ends) (opening_outcome asked.fresh (held f)) → now ≤ before.probes + loading f → IfOk (opening_outcome asked.fresh (held f)) (Opening asked.fresh old new) → (left : Option (List ℕ)) → left ≡ before.source.left →
          IfSome left (λ script. IfOk (opening_outcome asked.fresh (held f)) (λ z. IfTold spaces spaces asked.tick z script (λ given. says (loading f) z script given ends × Also given z script)))
      of f opened few opening None left_is = search rules
      of f opened few opening (Some script) left_is = at (loading f) few (opening_outcome asked.fresh (held f)) script left_is opened opening

      file : (o : Option (List ℕ)) → IfSome o (λ f. IsOpened (Err ends) (opening_outcome asked.fresh (held f))) → IfSome o (λ f. now ≤ before.probes + loading f) → IfSome o (λ f. IfOk (opening_outcome asked.fresh (held f)) (Opening asked.fresh old new)) →
          IfSome o (λ f. IfSome before.source.left (λ script. IfOk (opening_outcome asked.fresh (held f)) (λ z. IfTold spaces spaces asked.tick z script (λ given. says (loading f) z script given ends × Also given z script))))
      file None opened few opening = search rules
      file (Some f) opened few opening = of f opened few opening before.source.left refl
