-- How a run goes on by a line that was taken, decided, stored and told, and how each way out of it ends.
use Rattle.std.proofs.Common.{◌≡◌, ℕ, ◌+◌, ◌≤◌, Bool, true, false, List, [], ◌∷◌, ◌++◌, length, refl, ap, sym, ◌∙◌, append_assoc, arith, rules, subst, inl, inr, Option, Some, None, Ok, Err}
use Rattle.std.specs.Prelude.{◌⊎◌, ◌||◌}
use Rattle.std.specs.Option.{IfSome}
use Rattle.std.specs.Io.KnownBytes.{Appends, prepend_known}
use Rattle.hac_disk.specs.Images.{IsQuiet, LeavesOnly}
use Rattle.hac_disk.specs.Seen.{DiskSeen, IsLawful}
use Rattle.hac_disk.proofs.Moments.{quiet_twice, started, then_run, weaken}
use Rattle.hac_outside.specs.Causes.{ReportsFault}
use Rattle.hac_outside.specs.Known.{Known}
use Rattle.hac_outside.specs.Seen.{SinkSeen, SourceSeen, WritesSome}
use Rattle.hac_outside.proofs.KnownLemmas.{known-behind, known-joined, known-weaker}
use Rattle.hac_model.specs.Run.Play.{Given, Setting, Turn, all_events, has_refusal, left_by, play, turns_text}
use Rattle.hac_model.specs.Script.{script}
use Rattle.hac_model.specs.Tree.Events.{apply_all}
use Rattle.hac_model.specs.declared.events.Event.{Event}
use Rattle.hac_model.specs.declared.states.State.{State}
use Rattle.hac_model.proofs.JoinLemmas.{left_by-append}
use Rattle.hac_model.proofs.PlayLemmas.{apply_all-append}
use Rattle.sem_mounts.specs.Seen.{Contents, SpacesSeen}
use Rattle.hac_model.specs.Tree.Sessions.{stored}
use Rattle.hac_model.specs.declared.limits.TheConstants.{SCRIPT_LIMIT}
use Rattle.hac_store.specs.Stores.{Seen, Stands}
use Rattle.line_reader.specs.Reading.{Reading, SameTotal, pending}
use Rattle.line_reader.proofs.ReaderLemmas.{total_on}
use Rattle.hac_top.specs.Crashes.{Holds, IsTreeAfter, IsTreeOfAnswered}
use Rattle.hac_top.specs.Ends.{IsBetween, IsFinished, IsOpenStatus, finished_status, is_disk_fault, is_read_fault, is_write_fault}
use Rattle.hac_top.specs.Asking.{HaveAsked, faults_after, given_by}
use Rattle.hac_top.specs.Run.{AnswersBy, Ends, IsTreeOf, Outside, Played, PlaysOn, PlaysStore, PlaysTold, given_after, outside}
use Rattle.hac_top.specs.Takes.{TakesBy, TakesSome}
use Rattle.hac_top.specs.Writes.{GrowsBy, WritesTurns}
use Rattle.hac_top.specs.Ticking.{command_events}
use Rattle.hac_top.specs.Storing.{AnswersLine, AreTurns, IsUsable, StopsAnswer, StopsBehind, StopsReply, Stores}
use Rattle.hac_top.specs.TakenLines.{GivesFrom, GivesTaken, LeavesSource, StopsIn, StopsLine, StopsTaking, TakesLine, items_of_taken}
use Rattle.hac_top.specs.declared.status.Status.{Status}
use Rattle.hac_top.specs.declared.status.Status.TheVariants.{Done, SomeRefused, ReadFault, WriteFault, DiskFault, Memory, TooLong}
use Rattle.hac_top.specs.declared.taking.TakenLine.{TakenLine}
use Rattle.hac_top.proofs.GoesOn.{IsPlayed, RunsOn, TookFirst, fresh_reader, turns_of}
use Rattle.hac_top.proofs.CrashLemmas.{all_events-append, answered-tree, holds-weaker, none-answered, tree-more, tree-then}
use Rattle.hac_top.proofs.PlayedLemmas.{askable-all, asks-cut, asks-stop, faults-append, here-all, here-askable, here-answered, here-goes, here-next, open-played, played-first, played-next}
use Rattle.hac_top.proofs.RunLemmas.{answered-held, answered-so_far, answers-stop, goes-same, left-end, line-stops, nothing-stops, played-behind, played-cut, played-end, played-stop, turns-are}
use Rattle.hac_top.proofs.SourceLemmas.{takes-end, takes-line, takes-stop}
use Rattle.hac_top.proofs.StoringLemmas.{held-before, told-since}
use Rattle.hac_top.proofs.WriteLemmas.{both-none, grows-none, grows-same, grows-then, untouched, writes-between, writes-cut}

-- where a reply was cut, in other words
place-of : {n : ℕ} {xs ys vs ws : List Turn} → xs ≡ vs → ys ≡ ws → (n ≡ length vs) ⊎ (n ≡ length (vs ++ ws)) → (n ≡ length xs) ⊎ (n ≡ length (xs ++ ys))
place-of same alike (inl is) = inl (is ∙ ap length (sym same))
place-of same alike (inr is) = inr (is ∙ (λ i. length (sym same i ++ sym alike i)))

-- where turns have no events, their commands have none
commands-none : (ts : List Turn) → all_events ts ≡ [] → command_events ts ≡ []
commands-none [] none = refl
commands-none (t ∷ ts) none =
    let parts = both-none (t.events ++ t.steps) (all_events ts) none in
    ap (λ (es : List Event). es ++ command_events ts) (both-none t.events t.steps parts.0).0 ∙ commands-none ts parts.1

-- facts of bytes that a source may not tell
pub both : {X : Type 0} (told : Option X) (P Q R : X → Type 0) → ((x : X) → P x → Q x → R x) → IfSome told P → IfSome told Q → IfSome told R
both None P Q R then_r p q = search rules
both (Some x) P Q R then_r p q = then_r x p q

-- what follows from what is known of the script, of what is pending, and of what is left
known-script : (P Q T : List ℕ → List ℕ → Type 0) (R : List ℕ → Type 0) (script pending left : Option (List ℕ)) → ((s p l : List ℕ) → Some l ≡ left → P s p → Q p l → T s l → R s) →
    Known P script pending → Known Q pending left → Known T script left → IfSome script R
known-script P Q T R None pending left follows goes stops total = search rules
known-script P Q T R (Some s) None left follows goes stops total = absurd goes
known-script P Q T R (Some s) (Some p) None follows goes stops total = absurd stops
known-script P Q T R (Some s) (Some p) (Some l) follows goes stops total = follows s p l refl goes stops total

-- one taking after another
leaves-then : (failed : Bool) (r s t : Reading) (a b c : SourceSeen) → LeavesSource false r s a b → LeavesSource failed s t b c → LeavesSource failed r t a c
leaves-then failed r s t a b c first second =
    record { total = total_on r.taken s.taken t.taken a.left b.left c.left first.total second.total; limit = second.limit; reported = told-since failed a.faults b.faults c.faults first.reported second.reported }

-- what a run says of its source and its sink at its end
ends-of : (status : Status) (reader : Reading) (before after : Outside) → LeavesSource (is_read_fault status) fresh_reader reader before.source after.source → ReportsFault (is_write_fault status) before.sink.faults after.sink.faults →
    ((status ≡ WriteFault → ⊥) → before.sink.held_back ≡ 0 → after.sink.held_back ≡ 0) → Ends status before after
ends-of status reader before after source writes passed =
    record {
      reads = source.reported;
      writes = writes;
      within = known-weaker (λ x y. reader.taken + length y ≡ 0 + length x) (λ x y. length x ≤ length y + (SCRIPT_LIMIT + 1)) before.source.left after.source.left (λ x y same. omega (arith, same, source.limit)) source.total;
      passed = passed;
    }

ends-finished : (refused : Bool) (reader : Reading) (before after : Outside) → LeavesSource false fresh_reader reader before.source after.source → after.sink.faults ≡ before.sink.faults → (before.sink.held_back ≡ 0 → after.sink.held_back ≡ 0) → Ends (finished_status refused) before after
ends-finished true reader before after source writes passed = ends-of SomeRefused reader before after source writes (λ _. passed)
ends-finished false reader before after source writes passed = ends-of Done reader before after source writes (λ _. passed)

-- a run that stops as it takes a line reports no other device, and isn't finished
pub record StopsAtSource (status : Status) : Type 0 where
  pub disk : is_disk_fault status ≡ false
  pub sink : is_write_fault status ≡ false
  pub unfinished : IsFinished status → ⊥
  pub opened : IsOpenStatus status

stops-source : (status : Status) → StopsLine status → StopsAtSource status
stops-source ReadFault why = record { disk = refl; sink = refl; unfinished = λ never. never; opened = tt }
stops-source TooLong why = record { disk = refl; sink = refl; unfinished = λ never. never; opened = tt }
stops-source Memory why = record { disk = refl; sink = refl; unfinished = λ never. never; opened = tt }
stops-source other why = absurd why

no-fault : (failed : Bool) (before now : ℕ) → failed ≡ false → now ≡ before → ReportsFault failed before now
no-fault failed before now none same = subst (λ (b : Bool). ReportsFault b before now) (sym none) same

finished-facts : (refused : Bool) → (is_disk_fault (finished_status refused) ≡ false) × IsOpenStatus (finished_status refused)
finished-facts true = (refl, tt)
finished-facts false = (refl, tt)

-- it stops before it takes anything where there is no memory for a reader
pub stops-unread : (source : SourceSeen) → StopsTaking fresh_reader fresh_reader source source Memory
stops-unread source = record { why = tt; stops = stops source.left; goes = λ other. absurd (other refl); past = λ e. cc; source = record { total = total source.left; limit = omega arith; reported = refl } }
  where
    stops : (left : Option (List ℕ)) → Known (StopsIn Memory) (prepend_known [] left) left
    stops None = tt
    stops (Some l) = nothing-stops l l refl

    total : (left : Option (List ℕ)) → SameTotal 0 left 0 left
    total None = tt
    total (Some l) = refl

-- a run begins with a reader that holds nothing
pub runs-begin : (disk : DiskSeen) → IsLawful disk → (tick : ℕ) (before : Outside) (spaces : SpacesSeen) (reader : Reading) (store : Seen) (refused : Bool) → reader ≡ fresh_reader → before.source.ended ≡ false → refused ≡ false →
    IsUsable disk store → RunsOn disk disk tick store.setting before before spaces spaces reader store refused
runs-begin disk lawful tick before spaces reader store refused is open_now unrefused usable =
    subst (λ (r : Reading). RunsOn disk disk tick store.setting before before spaces spaces r store refused) (sym is)
    (record {
      met = [];
      asked = record { stay = record { attached = refl; contents = refl; later = omega arith }; count = refl };
      answered = [];
      leads = refl;
      goes = goes spaces.contents before.source.left;
      took = took before.source.left;
      reads = record { ended = open_now; nothing = λ e. absurd cc; last = λ e. absurd cc; near = omega arith };
      source = record { total = total before.source.left; limit = omega arith; reported = refl };
      passed = λ none. none;
      wrote = refl;
      usable = usable;
      setting_is = refl;
      grows = grows-none disk.contents store.setting;
      still = λ _. untouched disk;
      settled = λ settled. settled;
      stands = λ stands. stands;
      moments = λ stands. started disk (Holds (IsTreeAfter (stored store.setting.state) [])) (λ c left. held-before store.setting [] c (stands.each c (lawful.only_now c left)));
      names = refl;
      quiet = refl;
    })
  where
    goes : (contents : Option Contents) (script : Option (List ℕ)) → IfSome contents (λ c. Known (λ s p. IsPlayed c [] tick store.setting s p false store.setting refused before before []) script (prepend_known [] script))
    goes None script = search rules
    goes (Some c) None = tt
    goes (Some c) (Some s) = played-first c tick store.setting s refused before unrefused

    took : (script : Option (List ℕ)) → Known TookFirst script (prepend_known [] script)
    took None = tt
    took (Some s) = ([], refl)

    total : (script : Option (List ℕ)) → SameTotal 0 script 0 script
    total None = tt
    total (Some s) = refl

module _ {old mid : DiskSeen} {tick : ℕ} {first : Setting} {before now : Outside} {spaces spaces_now : SpacesSeen} {reader : Reading} {store : Seen} {refused : Bool} (was : RunsOn old mid tick first before now spaces spaces_now reader store refused) where
  -- what is known of the script, and of what is left, where no line was taken
  stop-script : {left : Option (List ℕ)} (total : ℕ) (P : List ℕ → List ℕ → Type 0) (R : Contents → List ℕ → Type 0) →
      ((c : Contents) (s p l : List ℕ) → Some l ≡ left → IsPlayed c was.met tick first s p reader.ended store.setting refused before now was.answered → P p l → total + length l ≡ 0 + length s → R c s) →
      Known P (pending reader now.source.left) left → Known (λ s l. total + length l ≡ 0 + length s) before.source.left left → IfSome spaces.contents (λ c. IfSome before.source.left (R c))
  stop-script {left} total P R follows stops totals = by spaces.contents was.goes
    where
      by : (o : Option Contents) → IfSome o (λ c. Known (λ s p. IsPlayed c was.met tick first s p reader.ended store.setting refused before now was.answered) before.source.left (pending reader now.source.left)) →
          IfSome o (λ c. IfSome before.source.left (R c))
      by None goes = search rules
      by (Some c) goes =
          known-script (λ s p. IsPlayed c was.met tick first s p reader.ended store.setting refused before now was.answered) P (λ s l. total + length l ≡ 0 + length s) (R c)
          before.source.left (pending reader now.source.left) left (follows c) goes stops totals

  -- a crash leaves the tree after some of the events of the script
  all-moments : (c : Contents) (s p : List ℕ) → IsPlayed c was.met tick first s p reader.ended store.setting refused before now was.answered → Stands old first →
      LeavesOnly old mid (Holds (IsTreeOf (given_by c was.met tick) first s))
  all-moments c s p played stands =
      let given = given_by c was.met tick in
      let all = turns-are given (given_by c [] tick) first s p reader.ended store.setting refused before.sink now.sink played.goes in
      let rest = play (given_by c [] tick) store.setting p in
      weaken old mid (Holds (IsTreeAfter (stored first.state) (all_events was.answered))) (Holds (IsTreeOf given first s))
      (λ i holds. holds-weaker (IsTreeAfter (stored first.state) (all_events was.answered)) (IsTreeOf given first s) i
      (λ t tree.
      subst (λ (es : List Event). IsTreeAfter (stored first.state) es t) (sym (ap all_events (all ∙ ap (λ (ts : List Turn). ts ++ rest) (sym played.answered_is)) ∙ all_events-append was.answered rest))
      (tree-more (stored first.state) t (all_events was.answered) (all_events rest) tree)) holds)
      (was.moments stands)

  -- the records of the turns so far were written, and nothing else was
  so-far-written : (c : Contents) (s p : List ℕ) (played : IsPlayed c was.met tick first s p reader.ended store.setting refused before now was.answered) (status : Status) →
      WritesTurns old mid status first (play (given_by c was.met tick) first s) (length (turns_of (given_by c was.met tick) first played.goes.played played.goes.last))
  so-far-written c s p played status =
      let given = given_by c was.met tick in
      let rest = play (given_by c [] tick) store.setting p in
      let all = turns-are given (given_by c [] tick) first s p reader.ended store.setting refused before.sink now.sink played.goes in
      writes-between old mid status first (play given first s) was.answered rest (length (turns_of given first played.goes.played played.goes.last)) (all ∙ ap (λ (ts : List Turn). ts ++ rest) (sym played.answered_is))
      (ap length (sym played.answered_is)) was.grows was.still was.settled

  -- no line was taken
  pub runs-stop : {source : SourceSeen} {new : Reading} {status : Status} → StopsTaking reader new now.source source status → PlaysStore old mid tick first before (outside source now.sink now.probes) spaces spaces_now status
  runs-stop {source} {new} {status} stop =
      let kind = stops-source status stop.why in
      let takes = leaves-then (is_read_fault status) fresh_reader reader new before.source now.source source was.source stop.source in
      record {
        met = was.met;
        asked = was.asked;
        told =
            stop-script new.taken (StopsIn status) (λ c s. PlaysTold (given_by c was.met tick) old mid first s before (outside source now.sink now.probes) status)
            (λ c s p l left_is played stops total.
            let given = given_by c was.met tick in
            let none = given_by c [] tick in
            let goes = played.goes in
            record {
              askable = askable-all c tick first was.met s p reader.ended store.setting refused before now was.answered played;
              played =
                  played-stop given none first (Stands old first) mid.image (WritesTurns old mid status first (play given first s)) status status s p l reader.ended store.setting refused before (outside source now.sink now.probes) goes left_is was.passed stops
                  (answers-stop given none first s p reader.ended store.setting refused before.sink now.sink goes status l new.taken stop.why stops stop.goes stop.past total)
                  (asks-stop c tick first was.met s p reader.ended store.setting refused before now was.answered played)
                  (λ stands i left. answered-held given none first s p reader.ended store.setting refused before.sink now.sink goes i ((was.stands stands).each i left))
                  (λ _ finished. absurd (kind.unfinished finished)) (so-far-written c s p played status);
              moments = all-moments c s p played;
            })
            stop.stops takes.total;
        takes =
            known-script TookFirst (StopsIn status) (λ s l. new.taken + length l ≡ 0 + length s) (λ s. TakesBy status s source.left) before.source.left (pending reader now.source.left) source.left
            (λ s p l left_is took stops total. subst (TakesBy status s) left_is (takes-stop status s p l new.taken stop.why took stops total stop.source.limit stop.past)) was.took stop.stops takes.total;
        opened = kind.opened;
        ends = ends-of status new before (outside source now.sink now.probes) takes (no-fault (is_write_fault status) before.sink.faults now.sink.faults kind.sink was.wrote) (λ _. was.passed);
        names = was.names;
        reported = no-fault (is_disk_fault status) old.faults mid.faults kind.disk was.quiet;
      }

  -- the script has ended
  pub runs-end : {source : SourceSeen} {new : Reading} → TakesLine reader new now.source source None → PlaysStore old mid tick first before (outside source now.sink now.probes) spaces spaces_now (finished_status refused)
  runs-end {source} {new} takes =
      let took = leaves-then false fresh_reader reader new before.source now.source source was.source takes.source in
      let nothing = λ (p l : List ℕ). (p ≡ []) × (new.buffered ++ l ≡ []) in
      let behind = known-behind (λ p q. (p ≡ []) × (q ≡ [])) (pending reader now.source.left) source.left new.buffered takes.given in
      record {
        met = was.met;
        asked = was.asked;
        told =
            stop-script new.taken (λ p l. (p ≡ []) × (new.buffered ++ l ≡ [])) (λ c s. PlaysTold (given_by c was.met tick) old mid first s before (outside source now.sink now.probes) (finished_status refused))
            (λ c s p l left_is played none total.
            record {
              askable = askable-all c tick first was.met s p reader.ended store.setting refused before now was.answered played;
              played =
                  played-end (given_by c was.met tick) (given_by c [] tick) first (Stands old first) mid.image (WritesTurns old mid (finished_status refused) first (play (given_by c was.met tick) first s)) s p l new.buffered new.taken reader.ended store.setting refused before (outside source now.sink now.probes) played.goes left_is was.passed none total takes.advances
                  (asks-stop c tick first was.met s p reader.ended store.setting refused before now was.answered played)
                  (λ stands. (was.stands stands).each) (so-far-written c s p played (finished_status refused));
              moments = all-moments c s p played;
            })
            behind took.total;
        takes =
            known-script TookFirst (λ p l. (p ≡ []) × (new.buffered ++ l ≡ [])) (λ s l. new.taken + length l ≡ 0 + length s) (λ s. TakesBy (finished_status refused) s source.left) before.source.left (pending reader now.source.left) source.left
            (λ s p l left_is _ none total. subst (TakesBy (finished_status refused) s) left_is (takes-end refused s p l new.buffered new.taken none.1 total takes.advances)) was.took behind took.total;
        opened = (finished-facts refused).1;
        ends = ends-finished refused new before (outside source now.sink now.probes) took was.wrote was.passed;
        names = was.names;
        reported = no-fault (is_disk_fault (finished_status refused)) old.faults mid.faults (finished-facts refused).0 was.quiet;
      }

  -- what the store has gone on to is what it left
  runs-left : {source : SourceSeen} {new : Reading} → TakesLine reader new now.source source None →
      IfSome spaces.contents (λ c. IfSome before.source.left (λ s. store.setting ≡ left_by first (play (given_by c was.met tick) first s)))
  runs-left {source} {new} takes =
      stop-script new.taken (λ p l. (p ≡ []) × (new.buffered ++ l ≡ [])) (λ c s. store.setting ≡ left_by first (play (given_by c was.met tick) first s))
      (λ c s p l _ played none _. left-end (given_by c was.met tick) (given_by c [] tick) first s p reader.ended store.setting refused before.sink now.sink played.goes none.0)
      (known-behind (λ p q. (p ≡ []) × (q ≡ [])) (pending reader now.source.left) source.left new.buffered takes.given)
      (leaves-then false fresh_reader reader new before.source now.source source was.source takes.source).total

  pub on-end : {source : SourceSeen} {new : Reading} → TakesLine reader new now.source source None →
      PlaysOn old mid tick first before (outside source now.sink now.probes) spaces spaces_now (Ok refused) store.setting
  unfolding runs-end
  on-end takes = record { plays = runs-end takes; leaves = runs-left takes; stops = search rules }

  pub on-stop : {source : SourceSeen} {new : Reading} {status : Status} {kept : Setting} → StopsTaking reader new now.source source status →
      PlaysOn old mid tick first before (outside source now.sink now.probes) spaces spaces_now (Err status) kept
  on-stop {source} {new} {status} {kept} stop = record { plays = runs-stop stop; leaves = search rules; stops = (stops-source status stop.why).unfinished }

  -- a line was taken, and its turns are in hand
  module _ {source : SourceSeen} {next : Reading} {line : TakenLine} (takes : TakesLine reader next now.source source (Some line)) {left : SpacesSeen} (more : List (Option (List ℕ))) (asks : HaveAsked spaces_now left more) (here : List Turn) (probes : ℕ) (few : length here ≤ 1)
      (leads : stored (left_by store.setting here).state ≡ apply_all (stored store.setting.state) (all_events here)) (told : IfSome spaces_now.contents (λ c. AreTurns c more tick store.setting (items_of_taken line) here now.probes probes)) where
    all-asked : HaveAsked spaces left (was.met ++ more)
    all-asked = record {
      stay = record {
        attached = asks.stay.attached ∙ was.asked.stay.attached;
        contents = asks.stay.contents ∙ was.asked.stay.contents;
        later = omega (arith, was.asked.stay.later, asks.stay.later);
      };
      count = asks.count ∙ ap (λ (n : ℕ). faults_after n more) was.asked.count ∙ sym (faults-append spaces.faults was.met more);
    }

    -- what is known of the script then, and of what is left
    given-script : (R : Contents → List ℕ → Type 0) →
        ((c : Contents) (s p l : List ℕ) → Some l ≡ source.left → IsPlayed c was.met tick first s p false store.setting refused before now was.answered → GivesTaken line next.ended p (next.buffered ++ l) → AreTurns c more tick store.setting (items_of_taken line) here now.probes probes → R c s) →
        IfSome spaces.contents (λ c. IfSome before.source.left (R c))
    given-script R follows = by spaces.contents was.goes (subst (λ (o : Option Contents). IfSome o (λ c. AreTurns c more tick store.setting (items_of_taken line) here now.probes probes)) was.asked.stay.contents told)
      where
        by : (o : Option Contents) → IfSome o (λ c. Known (λ s p. IsPlayed c was.met tick first s p reader.ended store.setting refused before now was.answered) before.source.left (pending reader now.source.left)) →
            IfSome o (λ c. AreTurns c more tick store.setting (items_of_taken line) here now.probes probes) → IfSome o (λ c. IfSome before.source.left (R c))
        by None goes are = search rules
        by (Some c) goes are =
            known-script (λ s p. IsPlayed c was.met tick first s p reader.ended store.setting refused before now was.answered) (λ p l. GivesFrom (Some line) next.ended p (next.buffered ++ l)) (λ s l. next.taken + length l ≡ 0 + length s) (R c)
            before.source.left (pending reader now.source.left) source.left
            (λ s p l left_is played gives total. follows c s p l left_is (open-played c tick first was.met s p reader.ended store.setting refused before now was.answered played line next.ended (next.buffered ++ l) gives) gives are)
            goes (known-behind (GivesFrom (Some line) next.ended) (pending reader now.source.left) source.left next.buffered takes.given)
            (leaves-then false fresh_reader reader next before.source now.source source was.source takes.source).total

    -- what a crash leaves: the tree after some of the events of the turns so far, and of those in hand
    line-moments : (new : DiskSeen) → (Stands mid store.setting → LeavesOnly mid new (Holds (IsTreeAfter (stored store.setting.state) (all_events here)))) →
        Stands old first → LeavesOnly old new (Holds (IsTreeAfter (stored first.state) (all_events (was.answered ++ here))))
    line-moments new run stands =
        let s = stored first.state in
        let so_far = IsTreeAfter (stored first.state) (all_events was.answered) in
        let on = IsTreeAfter (stored store.setting.state) (all_events here) in
        let all = IsTreeAfter (stored first.state) (all_events (was.answered ++ here)) in
        let joined = all_events-append was.answered here in
        then_run old mid new (Holds all)
        (weaken old mid (Holds so_far) (Holds all)
        (λ c holds. holds-weaker so_far all c (λ t tree. subst (λ (es : List Event). IsTreeAfter (stored first.state) es t) (sym joined) (tree-more s t (all_events was.answered) (all_events here) tree)) holds) (was.moments stands))
        (weaken mid new (Holds on) (Holds all)
        (λ c holds.
        holds-weaker on all c (λ t tree. subst (λ (es : List Event). IsTreeAfter (stored first.state) es t) (sym joined) (tree-then s (stored store.setting.state) t (all_events was.answered) (all_events here) was.leads tree)) holds)
        (run (was.stands stands)))

    -- where the line in hand stores nothing, nothing was written
    hand-idle : (new : DiskSeen) (events : List Event) (failed : Bool) → Stores mid new store.setting (left_by store.setting here) events failed → (left_by (left_by first was.answered) here).generation ≡ (left_by first was.answered).generation → events ≡ [] → IsQuiet mid new
    hand-idle new events failed stores area none = stores.idle (subst (λ (z : Setting). (left_by z here).generation ≡ z.generation) (sym was.setting_is) area, none)

    -- it was answered
    pub runs-next : {new : DiskSeen} {sink : SinkSeen} {after : Seen} {refused_now : Bool} → AnswersLine mid new store after now.sink sink here →
        refused_now ≡ (refused || has_refusal here) → RunsOn old new tick first before (outside source sink probes) spaces left next after refused_now
    runs-next {new} {sink} {after} {refused_now} answers is =
        record {
          met = was.met ++ more;
          asked = all-asked;
          answered = was.answered ++ here;
          leads =
              ap (λ (z : Setting). stored z.state) answers.on.setting ∙ leads ∙ ap (λ (s : State). apply_all s (all_events here)) was.leads ∙ sym (apply_all-append (all_events was.answered) (all_events here) (stored first.state))
              ∙ ap (apply_all (stored first.state)) (sym (all_events-append was.answered here));
          goes = goes_by spaces.contents was.goes (subst (λ (o : Option Contents). IfSome o (λ c. AreTurns c more tick store.setting (items_of_taken line) here now.probes probes)) was.asked.stay.contents told);
          took = known-joined TookFirst (GivesFrom (Some line) next.ended) TookFirst before.source.left (pending reader now.source.left) (pending next source.left)
              (λ s p q took gives. (took.0 ++ gives.own, took.1 ∙ ap (λ (xs : List ℕ). took.0 ++ xs) gives.bytes_are ∙ sym (append_assoc took.0 gives.own q))) was.took takes.given;
          reads = takes.reader;
          source = leaves-then false fresh_reader reader next before.source now.source source was.source takes.source;
          passed = λ none. answers.replies.passed (was.passed none);
          wrote = answers.replies.faults ∙ was.wrote;
          usable = record { intact = answers.on.intact ∙ was.usable.intact; place = answers.on.place };
          setting_is = answers.on.setting ∙ ap (λ (z : Setting). left_by z here) was.setting_is ∙ sym (left_by-append first was.answered here);
          grows =
              grows-same old.contents new.contents first (left_by (left_by first was.answered) here) (left_by first (was.answered ++ here)) (all_events was.answered ++ all_events here) (all_events (was.answered ++ here))
              (sym (left_by-append first was.answered here)) (sym (all_events-append was.answered here))
              (grows-then old.contents mid.contents new.contents first (left_by first was.answered) (left_by (left_by first was.answered) here) (all_events was.answered) (all_events here) was.grows (on_grows answers));
          still = λ idle.
              let parts = both-none (all_events was.answered) (all_events here) (sym (all_events-append was.answered here) ∙ idle.1) in
              let area : (left_by (left_by first was.answered) here).generation ≡ first.generation = ap (λ (z : Setting). z.generation) (sym (left_by-append first was.answered here)) ∙ idle.0 in
              quiet_twice old mid new (was.still (omega (arith, area, was.grows.later, (on_grows answers).later), parts.0))
              (hand-idle new (all_events here) false answers.stores (omega (arith, area, was.grows.later, (on_grows answers).later)) parts.1);
          settled = λ settled. answers.stores.settled refl (was.settled settled);
          stands = λ stands. answers.on.stands (was.stands stands);
          moments = line-moments new answers.stores.moments;
          names = answers.stores.names ∙ was.names;
          quiet = answers.stores.reported ∙ was.quiet;
        }
      where
        on_grows : AnswersLine mid new store after now.sink sink here → GrowsBy mid.contents new.contents (left_by first was.answered) (left_by (left_by first was.answered) here) (all_events here)
        on_grows answers = subst (λ (z : Setting). GrowsBy mid.contents new.contents z (left_by z here) (all_events here)) was.setting_is answers.on.grows

        goes_by : (o : Option Contents) → IfSome o (λ c. Known (λ s p. IsPlayed c was.met tick first s p reader.ended store.setting refused before now was.answered) before.source.left (pending reader now.source.left)) →
            IfSome o (λ c. AreTurns c more tick store.setting (items_of_taken line) here now.probes probes) →
            IfSome o (λ c. Known (λ s q. IsPlayed c (was.met ++ more) tick first s q next.ended after.setting refused_now before (outside source sink probes) (was.answered ++ here)) before.source.left (pending next source.left))
        goes_by None goes are = search rules
        goes_by (Some c) goes are =
            known-joined (λ s p. IsPlayed c was.met tick first s p reader.ended store.setting refused before now was.answered) (GivesFrom (Some line) next.ended)
            (λ s q. IsPlayed c (was.met ++ more) tick first s q next.ended after.setting refused_now before (outside source sink probes) (was.answered ++ here))
            before.source.left (pending reader now.source.left) (pending next source.left)
            (λ s p q played gives.
            subst (λ (z : Setting). IsPlayed c (was.met ++ more) tick first s q next.ended z refused_now before (outside source sink probes) (was.answered ++ here)) (sym answers.on.setting)
            (subst (λ (b : Bool). IsPlayed c (was.met ++ more) tick first s q next.ended (left_by store.setting here) b before (outside source sink probes) (was.answered ++ here)) (sym is)
            (played-next c tick first was.met more s p q store.setting refused before now probes was.answered here (open-played c tick first was.met s p reader.ended store.setting refused before now was.answered played line next.ended q gives)
            line next.ended gives are source sink answers.replies.written)))
            goes takes.given

    -- what is known of the events of a command is known of its turn
    stores-wider : (new : DiskSeen) (failed : Bool) → Stores mid new store.setting (left_by store.setting here) (command_events here) failed → Stores mid new store.setting (left_by store.setting here) (all_events here) failed
    stores-wider new failed stores =
        let s = stored store.setting.state in
        let commands = command_events here in
        let all = all_events here in
        record {
          moments = λ stands.
              weaken mid new (Holds (IsTreeAfter s commands)) (Holds (IsTreeAfter s all))
              (λ c holds. holds-weaker (IsTreeAfter s commands) (IsTreeAfter s all) c (λ t tree. answered-tree s t here 0 (none-answered s t here few tree)) holds) (stores.moments stands);
          idle = λ nothing. stores.idle (nothing.0, commands-none here nothing.1);
          settled = stores.settled;
          names = stores.names;
          reported = stores.reported;
        }

    -- a crash leaves the tree after some of the events of the script
    here-moments : (new : DiskSeen) (c : Contents) (s p l : List ℕ) → IsPlayed c was.met tick first s p false store.setting refused before now was.answered → GivesTaken line next.ended p (next.buffered ++ l) → AreTurns c more tick store.setting (items_of_taken line) here now.probes probes →
        (Stands mid store.setting → LeavesOnly mid new (Holds (IsTreeAfter (stored store.setting.state) (all_events here)))) → Stands old first → LeavesOnly old new (Holds (IsTreeOf (given_by c (was.met ++ more) tick) first s))
    here-moments new c s p l played gives are run stands =
        let given = given_by c (was.met ++ more) tick in
        let rest = play (given_after (given_by c more tick) here) (left_by store.setting here) (next.buffered ++ l) in
        let all = here-all c tick first was.met more s p (next.buffered ++ l) store.setting refused before now probes was.answered here played line next.ended gives are in
        let so_far = IsTreeAfter (stored first.state) (all_events (was.answered ++ here)) in
        weaken old new (Holds so_far) (Holds (IsTreeOf given first s))
        (λ i holds.
        holds-weaker so_far (IsTreeOf given first s) i
        (λ t tree.
        subst (λ (es : List Event). IsTreeAfter (stored first.state) es t) (sym (ap all_events all ∙ all_events-append (was.answered ++ here) rest))
        (tree-more (stored first.state) t (all_events (was.answered ++ here)) (all_events rest) tree)) holds)
        (line-moments new run stands)

    -- what was written then
    here-wrote : (new : DiskSeen) (status : Status) → (IsBetween status → ⊥) → (events : List Event) → (all_events here ≡ [] → events ≡ []) → Stores mid new store.setting (left_by store.setting here) events (is_disk_fault status) →
        (c : Contents) (s p l : List ℕ) → IsPlayed c was.met tick first s p false store.setting refused before now was.answered → GivesTaken line next.ended p (next.buffered ++ l) → AreTurns c more tick store.setting (items_of_taken line) here now.probes probes →
        (done : ℕ) → (done ≡ length was.answered) ⊎ (done ≡ length (was.answered ++ here)) → WritesTurns old new status first (play (given_by c (was.met ++ more) tick) first s) done
    here-wrote new status cut events none stores c s p l played gives are done place =
        writes-cut old new status first (play (given_by c (was.met ++ more) tick) first s) was.answered mid here (play (given_after (given_by c more tick) here) (left_by store.setting here) (next.buffered ++ l)) done
        (here-all c tick first was.met more s p (next.buffered ++ l) store.setting refused before now probes was.answered here played line next.ended gives are) few place cut was.grows was.still was.settled
        (λ idle. hand-idle new events (is_disk_fault status) stores idle.0 (none idle.1)) (λ fine settled. stores.settled (fine-disk status fine) settled)
      where
        fine-disk : (status : Status) → (status ≡ DiskFault → ⊥) → is_disk_fault status ≡ false
        fine-disk DiskFault fine = absurd (fine refl)
        fine-disk other fine = refl

    -- its answer stopped
    module _ {new : DiskSeen} (lawful : IsLawful new) {sink : SinkSeen} where
      cut-with : (status : Status) → Stores mid new store.setting (left_by store.setting here) (all_events here) (is_disk_fault status) → IsOpenStatus status →
          is_read_fault status ≡ false → ReportsFault (is_write_fault status) before.sink.faults sink.faults → ((status ≡ WriteFault → ⊥) → before.sink.held_back ≡ 0 → sink.held_back ≡ 0) →
          ((s : List ℕ) → TakesSome s source.left → TakesBy status s source.left) →
          ((c : Contents) (s p l : List ℕ) → Some l ≡ source.left → IsPlayed c was.met tick first s p false store.setting refused before now was.answered → GivesTaken line next.ended p (next.buffered ++ l) → AreTurns c more tick store.setting (items_of_taken line) here now.probes probes →
          Played false (given_by c (was.met ++ more) tick) status first s before (outside source sink probes) (Stands old first) new.image (WritesTurns old new status first (play (given_by c (was.met ++ more) tick) first s))) →
          PlaysStore old new tick first before (outside source sink probes) spaces left status
      cut-with status stores opened reads writes passed takes_by each =
          record {
            opened = opened;
            met = was.met ++ more;
            asked = all-asked;
            told = given-script (λ c s. PlaysTold (given_by c (was.met ++ more) tick) old new first s before (outside source sink probes) status)
                (λ c s p l left_is played gives are.
                record {
                  askable = here-askable c tick first was.met more s p (next.buffered ++ l) store.setting refused before now probes was.answered here played line next.ended gives are;
                  played = each c s p l left_is played gives are;
                  moments = here-moments new c s p l played gives are stores.moments;
                });
            takes =
                known-script TookFirst (λ p l. GivesFrom (Some line) next.ended p (next.buffered ++ l)) (λ s l. next.taken + length l ≡ 0 + length s) (λ s. TakesBy status s source.left) before.source.left (pending reader now.source.left) source.left
                (λ s p l left_is took gives total. takes_by s (subst (TakesSome s) left_is (takes-line s p l next.buffered next.taken line next.ended took gives total takes.source.limit))) was.took
                (known-behind (GivesFrom (Some line) next.ended) (pending reader now.source.left) source.left next.buffered takes.given)
                (leaves-then false fresh_reader reader next before.source now.source source was.source takes.source).total;
            ends =
                ends-of status next before (outside source sink probes)
                (subst (λ (b : Bool). LeavesSource b fresh_reader next before.source source) (sym reads) (leaves-then false fresh_reader reader next before.source now.source source was.source takes.source)) writes passed;
            names = stores.names ∙ was.names;
            reported = told-since (is_disk_fault status) old.faults mid.faults new.faults was.quiet stores.reported;
          }

      -- none of its reply was written
      cut-before : (status : Status) → StopsReply mid new store.setting now.sink sink here status → sink ≡ now.sink → IsOpenStatus status → is_read_fault status ≡ false → is_write_fault status ≡ false →
          ((s : List ℕ) → TakesSome s source.left → TakesBy status s source.left) → ((given : Given) (s left : List ℕ) (done : ℕ) → AnswersBy given status first s done (Some left)) → (IsFinished status → ⊥) → (IsBetween status → ⊥) → PlaysStore old new tick first before (outside source sink probes) spaces left status
      cut-before status stop same opened reads writes takes_by answers unfinished cut =
          let passed : before.sink.held_back ≡ 0 → sink.held_back ≡ 0 = λ none. ap (λ (k : SinkSeen). k.held_back) same ∙ was.passed none in
          let now_is = stored store.setting.state in
          cut-with status (stores-wider new (is_disk_fault status) stop.stores) opened reads (no-fault (is_write_fault status) before.sink.faults sink.faults writes (ap (λ (k : SinkSeen). k.faults) same ∙ was.wrote)) (λ _. passed) takes_by
          (λ c s p l left_is played gives are.
          let given = given_by c (was.met ++ more) tick in
          let later = given_by c more tick in
          let goes_on = goes-same given later first s p false store.setting refused before.sink now.sink sink
          (here-goes c tick first was.met more s p (next.buffered ++ l) store.setting refused before now probes was.answered here played line next.ended gives are) same in
          played-stop given later first (Stands old first) new.image (WritesTurns old new status first (play given first s)) status Memory s p l false store.setting refused before (outside source sink probes) goes_on left_is
          passed (line-stops line next.ended p next.buffered l gives takes.advances.near) (answers given s l _)
          (λ n done. asks-cut c tick first was.met more s p (next.buffered ++ l) store.setting refused before now probes was.answered here played line next.ended gives are n few done)
          (λ stands i left_now.
          let run = stop.stores.moments (was.stands stands) in
          answered-so_far given later first s p false store.setting refused before.sink sink goes_on here (play (given_after later here) (left_by store.setting here) (next.buffered ++ l))
          (here-next c tick first was.met more s p (next.buffered ++ l) store.setting refused before now probes was.answered here played line next.ended gives are) i
          (holds-weaker (IsTreeAfter now_is (command_events here)) (IsTreeOfAnswered now_is here 0) i (λ t tree. none-answered now_is t here few tree)
          (run.each i (lawful.counts_now mid.moment i run.later left_now))))
          (λ _ finished. absurd (unfinished finished))
          (here-wrote new status cut (command_events here) (commands-none here) stop.stores c s p l played gives are _
          (inl (ap length (sym (here-answered c tick first was.met more s p (next.buffered ++ l) store.setting refused before now probes was.answered here played line next.ended gives are))))))

      -- all of its reply was written
      cut-behind : (status : Status) → StopsBehind mid new store.setting now.sink sink here status → IsOpenStatus status → is_read_fault status ≡ false → is_write_fault status ≡ false →
          ((s : List ℕ) → TakesSome s source.left → TakesBy status s source.left) → ((given : Given) (s left : List ℕ) (done : ℕ) → AnswersBy given status first s done (Some left)) → (IsFinished status → ⊥) → (IsBetween status → ⊥) → PlaysStore old new tick first before (outside source sink probes) spaces left status
      cut-behind status stop opened reads writes takes_by answers unfinished cut =
          let passed : before.sink.held_back ≡ 0 → sink.held_back ≡ 0 = λ none. stop.replies.passed (was.passed none) in
          cut-with status stop.stores opened reads (no-fault (is_write_fault status) before.sink.faults sink.faults writes (stop.replies.faults ∙ was.wrote)) (λ _. passed) takes_by
          (λ c s p l left_is played gives are.
          let given = given_by c (was.met ++ more) tick in
          let later = given_by c more tick in
          played-behind given later first (Stands old first) new.image (WritesTurns old new status first (play given first s)) status s p l next.buffered line next.ended store.setting refused now.sink before (outside source sink probes)
          (here-goes c tick first was.met more s p (next.buffered ++ l) store.setting refused before now probes was.answered here played line next.ended gives are) left_is passed gives takes.advances.near
          (λ n done. asks-cut c tick first was.met more s p (next.buffered ++ l) store.setting refused before now probes was.answered here played line next.ended gives are n few done)
          (subst (λ (ts : List Turn). Appends now.sink.written sink.written (turns_text ts)) are.are stop.replies.written) (answers given s l) unfinished
          (λ stands i left_now. subst (λ (ts : List Turn). Holds (IsTreeOfAnswered (stored store.setting.state) ts (length ts)) i) are.are (stop.left (was.stands stands) i left_now))
          (here-wrote new status cut (all_events here) (λ none. none) stop.stores c s p l played gives are _
          (place-of (here-answered c tick first was.met more s p (next.buffered ++ l) store.setting refused before now probes was.answered here played line next.ended gives are) are.are (inr refl))))

      reply-by : (status : Status) → StopsReply mid new store.setting now.sink sink here status → PlaysStore old new tick first before (outside source sink probes) spaces left status
      reply-by WriteFault stop =
          cut-with WriteFault (stores-wider new false stop.stores) tt refl (told-since true before.sink.faults now.sink.faults sink.faults was.wrote stop.replies.1) (λ other. absurd (other refl)) (λ s some. some)
          (λ c s p l left_is played gives are.
          let answered_is = here-answered c tick first was.met more s p (next.buffered ++ l) store.setting refused before now probes was.answered here played line next.ended gives are in
          played-cut (given_by c (was.met ++ more) tick) (given_by c more tick) first (Stands old first) new.image (WritesTurns old new WriteFault first (play (given_by c (was.met ++ more) tick) first s)) s p l next.buffered line next.ended store.setting refused now.sink before (outside source sink probes)
          (here-goes c tick first was.met more s p (next.buffered ++ l) store.setting refused before now probes was.answered here played line next.ended gives are) left_is was.passed gives takes.advances.near
          (λ n done. asks-cut c tick first was.met more s p (next.buffered ++ l) store.setting refused before now probes was.answered here played line next.ended gives are n few done)
          (subst (λ (ts : List Turn). WritesSome now.sink sink (turns_text ts)) are.are stop.replies.0)
          (λ stands i left_now. subst (λ (ts : List Turn). Holds (λ now. now ≡ apply_all (stored store.setting.state) (command_events ts)) i) are.are (stop.stored refl (was.stands stands) i left_now))
          (λ n place. here-wrote new WriteFault (λ never. never) (command_events here) (commands-none here) stop.stores c s p l played gives are n (place-of answered_is are.are place)))
      reply-by DiskFault stop = cut-before DiskFault stop stop.replies tt refl refl (λ s some. some) (λ given s left done. tt) (λ never. never) (λ never. never)
      reply-by Memory stop = cut-before Memory stop stop.replies tt refl refl (λ s some. some) (λ given s left done. tt) (λ never. never) (λ never. never)
      reply-by other stop = absurd stop.replies

      behind-by : (status : Status) → StopsBehind mid new store.setting now.sink sink here status → PlaysStore old new tick first before (outside source sink probes) spaces left status
      behind-by DiskFault stop = cut-behind DiskFault stop tt refl refl (λ s some. some) (λ given s left done. tt) (λ never. never) (λ never. never)
      behind-by Memory stop = cut-behind Memory stop tt refl refl (λ s some. some) (λ given s left done. tt) (λ never. never) (λ never. never)
      behind-by other stop = absurd stop.why

      pub runs-cut : {status : Status} → StopsAnswer mid new store.setting now.sink sink here status → PlaysStore old new tick first before (outside source sink probes) spaces left status
      runs-cut {status} (inl stop) = reply-by status stop
      runs-cut {status} (inr stop) = behind-by status stop

      unfinished : (status : Status) → StopsAnswer mid new store.setting now.sink sink here status → IsFinished status → ⊥
      unfinished Done (inl stop) finished = stop.replies
      unfinished Done (inr stop) finished = stop.why
      unfinished SomeRefused (inl stop) finished = stop.replies
      unfinished SomeRefused (inr stop) finished = stop.why
      unfinished other stop finished = finished

      pub on-cut : {status : Status} {kept : Setting} → StopsAnswer mid new store.setting now.sink sink here status →
          PlaysOn old new tick first before (outside source sink probes) spaces left (Err status) kept
      on-cut {status} {kept} stop = record { plays = runs-cut stop; leaves = search rules; stops = unfinished status stop }
