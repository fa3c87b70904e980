-- How what was played of a script goes on by a line, and what is known of the whole script then, given the faults that
-- its commands met.
use Rattle.std.proofs.Common.{◌≡◌, ℕ, ◌+◌, ◌≤◌, Bool, true, false, List, [], ◌∷◌, ◌++◌, length, drop, take, refl, ap, ap₂, sym, subst, ◌∙◌, arith, append_assoc, append-nil, length-append}
use Rattle.std.specs.Prelude.{◌||◌, Option, None, Some}
use Rattle.std.specs.Io.KnownBytes.{Appends}
use Rattle.std.proofs.Math.Seq.{drop-length}
use Rattle.hac_model.specs.Run.Costs.{lines_cost}
use Rattle.hac_model.specs.Run.Play.{AreAskable, Given, Setting, Turn, has_refusal, left_by, play, turns, turns_text}
use Rattle.hac_model.specs.Script.Lines.{Item}
use Rattle.hac_model.specs.Script.{after_item, first_items, script, whole}
use Rattle.hac_model.proofs.JoinLemmas.{script-joined}
use Rattle.hac_model.proofs.ScriptLemmas.{script-nothing, script-step}
use Rattle.hac_outside.specs.Calls.{next_number}
use Rattle.hac_outside.specs.Seen.{SinkSeen, SourceSeen}
use Rattle.sem_mounts.specs.Seen.{Contents}
use Rattle.hac_top.specs.Asking.{faults_after, given_by}
use Rattle.hac_top.specs.Run.{Outside, given_after, outside}
use Rattle.hac_top.specs.Storing.{AreTurns}
use Rattle.hac_top.specs.TakenLines.{GivesFrom, GivesTaken, IsLine, items_of_taken}
use Rattle.hac_top.specs.declared.taking.TakenLine.{TakenLine}
use Rattle.hac_top.proofs.AskLemmas.{askable-further, askable-none, goes-further, items-are, items-counted, turns-of-front}
use Rattle.hac_top.proofs.CostLemmas.{fewer-lines, further-lines, take-lines}
use Rattle.hac_top.proofs.GoesOn.{Goes, IsPlayed, turns_of}
use Rattle.hac_top.proofs.TickLemmas.{turns-counted}
use Rattle.hac_top.proofs.RunLemmas.{goes-first, goes-on, more-turns, play-nothing, script-of, turns-are, turns-next, whole-so_far}

pub faults-append : (count : ℕ) (xs ys : List (Option (List ℕ))) → faults_after count (xs ++ ys) ≡ faults_after (faults_after count xs) ys
faults-append count [] ys = refl
faults-append count (None ∷ xs) ys = faults-append count xs ys
faults-append count (Some space ∷ xs) ys = faults-append (next_number count) xs ys

-- the items of one line, and those behind it
script-own : (own : List ℕ) → after_item own ≡ [] → script own ≡ first_items own
script-own own one = script-step own ∙ ap (λ (xs : List ℕ). first_items own ++ script xs) one ∙ ap (λ (items : List Item). first_items own ++ items) script-nothing ∙ append-nil (first_items own)

script-line : (ended : Bool) (own rest : List ℕ) → IsLine ended own rest → script (own ++ rest) ≡ first_items own ++ script rest
script-line true own rest line =
    let none : rest ≡ [] = line.last refl in
    ap (λ (xs : List ℕ). script (own ++ xs)) none ∙ ap script (append-nil own) ∙ script-step own ∙ ap (λ (xs : List ℕ). first_items own ++ script xs) (line.one ∙ sym none)
script-line false own rest line = script-joined own rest (line.whole_is refl) ∙ ap (λ (items : List Item). items ++ script rest) (script-own own line.one)

module _ (contents : Contents) (tick : ℕ) (first : Setting) where
  -- what is given behind all commands that met these faults
  given-done : (met : List (Option (List ℕ))) (answered : List Turn) → length met ≡ length answered → given_after (given_by contents met tick) answered ≡ given_by contents [] tick
  given-done met answered same =
      ap (λ (n : ℕ). given_by contents (drop n met) tick) (sym same) ∙ ap (λ (faults : List (Option (List ℕ))). given_by contents faults tick) (drop-length met)

  -- the commands of the whole script, of which the last ones met nothing
  further-none : (met : List (Option (List ℕ))) (played last rest s : List ℕ) (ended : Bool) → s ≡ played ++ (last ++ rest) → whole played ≡ played → IsLine ended last rest → length met ≡ length (script played ++ first_items last) →
      AreAskable (given_by contents met tick) first (script played ++ first_items last) → AreAskable (given_by contents met tick) first (script s)
  further-none met played last rest s ended script_is lines line count askable =
      let items = script played ++ first_items last in
      let all : script s ≡ (script played ++ first_items last) ++ script rest =
      ap script script_is ∙ script-joined played (last ++ rest) lines ∙ ap (λ (more : List Item). script played ++ more) (script-line ended last rest line) ∙ sym (append_assoc (script played) (first_items last) (script rest)) in
      subst (λ (is : List Item). AreAskable (given_by contents met tick) first is) (sym all)
      (subst (λ (faults : List (Option (List ℕ))). AreAskable (given_by contents faults tick) first (items ++ script rest)) (append-nil met)
      (askable-further contents tick met [] first items (script rest) count askable (askable-none contents tick (left_by first (turns (given_by contents met tick) first items)) (script rest))))

  pub askable-all : (met : List (Option (List ℕ))) (s p : List ℕ) (ended : Bool) (setting : Setting) (refused : Bool) (before now : Outside) (answered : List Turn) → IsPlayed contents met tick first s p ended setting refused before now answered →
      AreAskable (given_by contents met tick) first (script s)
  askable-all met s p ended setting refused before now answered was =
      let goes = was.goes in
      further-none met goes.played goes.last p s ended goes.script_is goes.lines goes.line_is
      (was.count ∙ ap length was.answered_is ∙ items-counted contents tick (given_by contents met tick) first goes.played goes.last) was.askable

  -- a run that stops before it takes a line up has asked no more than the lines so far may take
  pub asks-stop : (met : List (Option (List ℕ))) (s p : List ℕ) (ended : Bool) (setting : Setting) (refused : Bool) (before now : Outside) (answered : List Turn) (was : IsPlayed contents met tick first s p ended setting refused before now answered) (n : ℕ) →
      length (turns_of (given_by contents met tick) first was.goes.played was.goes.last) ≤ n → now.probes ≤ before.probes + lines_cost (given_by contents met tick) first (take (n + 1) (script s))
  asks-stop met s p ended setting refused before now answered was n done =
      let fewer = fewer-lines (given_by contents met tick) first (length answered) (n + 1) (script s) (omega (arith, done, ap length was.answered_is)) in
      omega (arith, was.asks, fewer)

  -- nothing was played yet
  pub played-first : (s : List ℕ) (refused : Bool) (before : Outside) → refused ≡ false → IsPlayed contents [] tick first s s false first refused before before []
  played-first s refused before unrefused =
      let given = given_by contents [] tick in
      record {
        goes = goes-first given given first s refused before.sink refl unrefused;
        answered_is = sym (append-nil (play given first []) ∙ play-nothing given first);
        count = refl;
        askable = askable-none contents tick first (script [] ++ first_items []);
        asks = omega arith;
      }

  -- while a line is pending, the source goes on
  pub open-played : (met : List (Option (List ℕ))) (s p : List ℕ) (ended : Bool) (setting : Setting) (refused : Bool) (before now : Outside) (answered : List Turn) → IsPlayed contents met tick first s p ended setting refused before now answered →
      (line : TakenLine) (new_ended : Bool) (q : List ℕ) → GivesFrom (Some line) new_ended p q → IsPlayed contents met tick first s p false setting refused before now answered
  open-played met s p true setting refused before now answered was line new_ended q gives =
      let line_is = was.goes.line_is in
      absurd (omega (arith, gives.some, ap length gives.bytes_are, length-append gives.own q, ap length (line_is.last refl)))
  open-played met s p false setting refused before now answered was line new_ended q gives = was

  -- A line is in hand, and what its command met.
  module _ (met more : List (Option (List ℕ))) (s p q : List ℕ) (setting : Setting) (refused : Bool) (before mid : Outside) (probes : ℕ) (answered here : List Turn) (was : IsPlayed contents met tick first s p false setting refused before mid answered)
      (line : TakenLine) (new_ended : Bool) (gives : GivesTaken line new_ended p q) (of : AreTurns contents more tick setting (items_of_taken line) here mid.probes probes) where
    counted : length met ≡ length (turns_of (given_by contents met tick) first was.goes.played was.goes.last)
    counted = was.count ∙ ap length was.answered_is

    abbrev pub here-goes : Goes (given_by contents (met ++ more) tick) (given_by contents more tick) first s p false setting refused before.sink mid.sink
    here-goes = goes-further contents tick met more first s p false setting refused before.sink mid.sink was.goes (was.count ∙ ap length was.answered_is)

    pub here-answered : answered ≡ turns_of (given_by contents (met ++ more) tick) first was.goes.played was.goes.last
    here-answered = was.answered_is ∙ sym (turns-of-front contents tick met more first was.goes.played was.goes.last counted)

    -- what is pending is the turns in hand, and those of the rest
    pub here-next : play (given_by contents more tick) setting p ≡ here ++ play (given_after (given_by contents more tick) here) (left_by setting here) q
    here-next =
        turns-next (given_by contents more tick) line new_ended p q setting gives
        ∙ ap (λ (ts : List Turn). ts ++ play (given_after (given_by contents more tick) ts) (left_by setting ts) q) (sym of.are)

    -- the whole script
    pub here-all : play (given_by contents (met ++ more) tick) first s ≡ (answered ++ here) ++ play (given_after (given_by contents more tick) here) (left_by setting here) q
    here-all =
        let rest = play (given_after (given_by contents more tick) here) (left_by setting here) q in
        turns-are (given_by contents (met ++ more) tick) (given_by contents more tick) first s p false setting refused before.sink mid.sink here-goes
        ∙ ap₂ (λ (xs ys : List Turn). xs ++ ys) (sym here-answered) here-next ∙ sym (append_assoc answered here rest)

    next-items : script (was.goes.played ++ was.goes.last) ≡ script was.goes.played ++ first_items was.goes.last
    next-items = script-joined was.goes.played was.goes.last was.goes.lines ∙ ap (λ (items : List Item). script was.goes.played ++ items) (script-own was.goes.last was.goes.line_is.one)

    next-count : length (met ++ more) ≡ length (script (was.goes.played ++ was.goes.last) ++ first_items gives.own)
    next-count =
        omega (
          arith,
          length-append met more,
          length-append (script (was.goes.played ++ was.goes.last)) (first_items gives.own),
          counted,
          items-counted contents tick (given_by contents met tick) first was.goes.played was.goes.last,
          ap length next-items,
          of.count,
          ap length gives.items,
        )

    next-askable : AreAskable (given_by contents (met ++ more) tick) first (script (was.goes.played ++ was.goes.last) ++ first_items gives.own)
    next-askable =
        let items = script was.goes.played ++ first_items was.goes.last in
        let given = given_by contents met tick in
        subst (λ (is : List Item). AreAskable (given_by contents (met ++ more) tick) first (is ++ first_items gives.own)) (sym next-items)
        (askable-further contents tick met more first items (first_items gives.own) (counted ∙ items-counted contents tick given first was.goes.played was.goes.last) was.askable
        (subst (λ (z : Setting). AreAskable (given_by contents more tick) z (first_items gives.own)) (was.goes.left_is ∙ ap (left_by first) (items-are contents tick given first was.goes.played was.goes.last))
        (subst (λ (is : List Item). AreAskable (given_by contents more tick) setting is) gives.items of.askable)))

    -- each fault of the script is at a space that was asked
    pub here-askable : AreAskable (given_by contents (met ++ more) tick) first (script s)
    here-askable =
        let goes = was.goes in
        further-none (met ++ more) (goes.played ++ goes.last) gives.own q s new_ended
        (script-of (given_by contents met tick) (given_by contents [] tick) first s p false setting refused before.sink mid.sink goes ∙ ap (λ (xs : List ℕ). (goes.played ++ goes.last) ++ xs) gives.bytes_are)
        (whole-so_far (given_by contents met tick) (given_by contents [] tick) first s p false setting refused before.sink mid.sink goes refl) gives.line_is next-count next-askable

    -- the items so far, that in hand, and those to come
    all-items : script s ≡ (script was.goes.played ++ first_items was.goes.last) ++ (items_of_taken line ++ script q)
    all-items =
        let goes = was.goes in
        ap script (script-of (given_by contents met tick) (given_by contents [] tick) first s p false setting refused before.sink mid.sink goes)
        ∙ script-joined (goes.played ++ goes.last) p (whole-so_far (given_by contents met tick) (given_by contents [] tick) first s p false setting refused before.sink mid.sink goes refl)
        ∙ ap₂ (λ (xs ys : List Item). xs ++ ys) next-items (ap script gives.bytes_are ∙ script-line new_ended gives.own q gives.line_is ∙ ap (λ (is : List Item). is ++ script q) (sym gives.items))

    -- no more is asked than the lines so far may take, with that in hand
    here-asks : probes ≤ before.probes + lines_cost (given_by contents (met ++ more) tick) first (take (length (answered ++ here)) (script s))
    here-asks =
        let goes = was.goes in
        let given = given_by contents met tick in
        let later = given_by contents more tick in
        let all = given_by contents (met ++ more) tick in
        let items = script goes.played ++ first_items goes.last in
        let own = items_of_taken line in
        let count : length answered ≡ length items = ap length was.answered_is ∙ items-counted contents tick given first goes.played goes.last in
        let own_count : length here ≡ length own = ap length of.are ∙ turns-counted later setting own in
        let so_far : lines_cost given first (take (length answered) (script s)) ≡ lines_cost given first items =
        ap (lines_cost given first) (ap (λ (is : List Item). take (length answered) is) all-items ∙ take-lines (length answered) items (own ++ script q) count) in
        let with_own : lines_cost all first (take (length (answered ++ here)) (script s)) ≡ lines_cost all first (items ++ own) =
        ap (lines_cost all first)
        (ap (λ (is : List Item). take (length (answered ++ here)) is) (all-items ∙ sym (append_assoc items own (script q)))
        ∙ take-lines (length (answered ++ here)) (items ++ own) (script q) (omega (arith, length-append answered here, length-append items own, count, own_count))) in
        let both = further-lines contents tick met more first items own (was.count ∙ count) in
        let own_cost : lines_cost later (left_by first (turns given first items)) own ≡ lines_cost later setting own =
        ap (λ (z : Setting). lines_cost later z own) (sym (goes.left_is ∙ ap (left_by first) (items-are contents tick given first goes.played goes.last))) in
        omega (arith, was.asks, of.asks, so_far, with_own, both, own_cost)

    -- the same where so many lines were answered
    pub asks-cut : (n : ℕ) → length here ≤ 1 → length (turns_of (given_by contents (met ++ more) tick) first was.goes.played was.goes.last) ≤ n →
        probes ≤ before.probes + lines_cost (given_by contents (met ++ more) tick) first (take (n + 1) (script s))
    asks-cut n few done =
        let fewer = fewer-lines (given_by contents (met ++ more) tick) first (length (answered ++ here)) (n + 1) (script s) (omega (arith, few, done, length-append answered here, ap length here-answered)) in
        omega (arith, here-asks, fewer)

    -- it was answered
    pub played-next : (source : SourceSeen) (after : SinkSeen) → Appends mid.sink.written after.written (turns_text here) →
        IsPlayed contents (met ++ more) tick first s q new_ended (left_by setting here) (refused || has_refusal here) before (outside source after probes) (answered ++ here)
    played-next source after written =
        let now = turns (given_by contents more tick) setting (items_of_taken line) in
        subst (λ (ts : List Turn). IsPlayed contents (met ++ more) tick first s q new_ended (left_by setting ts) (refused || has_refusal ts) before (outside source after probes) (answered ++ ts)) (sym of.are)
        (by (subst (λ (ts : List Turn). Appends mid.sink.written after.written (turns_text ts)) of.are written))
      where
        all : Given
        all = given_by contents (met ++ more) tick

        by : Appends mid.sink.written after.written (turns_text (turns (given_by contents more tick) setting (items_of_taken line))) →
            IsPlayed contents (met ++ more) tick first s q new_ended (left_by setting (turns (given_by contents more tick) setting (items_of_taken line))) (refused || has_refusal (turns (given_by contents more tick) setting (items_of_taken line))) before (outside source after probes)
            (answered ++ turns (given_by contents more tick) setting (items_of_taken line))
        by text =
            let later = given_by contents more tick in
            let now = turns (given_by contents more tick) setting (items_of_taken line) in
            let goes = goes-on (given_by contents (met ++ more) tick) (given_by contents more tick) first s p q line new_ended setting refused before.sink mid.sink after here-goes gives text in
            record {
              goes = record {
                played = goes.played;
                last = goes.last;
                script_is = goes.script_is;
                lines = goes.lines;
                line_is = goes.line_is;
                given_is = sym (given-done more now (of.count ∙ sym (turns-counted later setting (items_of_taken line)))) ∙ goes.given_is;
                left_is = goes.left_is;
                written = goes.written;
                refused_is = goes.refused_is;
              };
              answered_is =
                  ap (λ (ts : List Turn). ts ++ now) here-answered
                  ∙ sym (more-turns (given_by contents (met ++ more) tick) (given_by contents more tick) first s p q line new_ended setting refused before.sink mid.sink here-goes gives);
              count = omega (arith, length-append met more, length-append answered now, was.count, of.count, turns-counted later setting (items_of_taken line));
              askable = next-askable;
              asks = subst (λ (ts : List Turn). probes ≤ before.probes + lines_cost (given_by contents (met ++ more) tick) first (take (length (answered ++ ts)) (script s))) of.are here-asks;
            }
