-- How the replies and the tree of a run go on by a line with its bytes, and how they end, where the script is known.
use Rattle.std.proofs.Common.{◌≡◌, ℕ, zero, suc, ◌+◌, ◌<◌, ◌≤◌, Bool, true, false, List, [], ◌∷◌, ◌++◌, length, take, drop, refl, ap, ap₂, sym, ◌∙◌, arith, append_assoc, length-append, append-nil, subst, inl, inr, Option, Some}
use Rattle.std.specs.Prelude.{◌⊎◌, ◌||◌, Ok}
use Rattle.std.specs.Io.KnownBytes.{Appends}
use Rattle.std.proofs.Math.Seq.{take-append_seam, take-length, drop-append_seam, drop-nil}
use Rattle.std.proofs.lemmas.List.Folds.{list_any-append}
use Rattle.hac_outside.specs.Seen.{SinkSeen, WritesSome}
use Rattle.hac_model.specs.Script.Lines.{Item}
use Rattle.hac_model.specs.Script.{first_line, due, first_items, after_item, script, whole}
use Rattle.hac_model.specs.declared.limits.TheConstants.{SCRIPT_LIMIT}
use Rattle.hac_model.specs.Tree.Events.{apply_all}
use Rattle.hac_model.specs.Run.Costs.{lines_cost}
use Rattle.hac_model.specs.Run.Play.{Given, Setting, Turn, all_events, has_refusal, is_refused, left_by, play, stored_setting, turns, turns_text}
use Rattle.hac_model.specs.Tree.Sessions.{stored}
use Rattle.hac_model.specs.declared.states.State.{State}
use Rattle.hac_model.specs.declared.taken.Taken.{Taken}
use Rattle.hac_model.specs.Laws.{AreLines}
use Rattle.hac_model.proofs.JoinLemmas.{cut-append, left_by-append, whole-line, whole-unended}
use Rattle.hac_model.proofs.WholeLemmas.{whole-lines}
use Rattle.hac_model.proofs.PlayLemmas.{events-lead}
use Rattle.hac_model.proofs.ScriptLemmas.{script-nothing}
use Rattle.hac_store.specs.Held.{held}
use Rattle.line_reader.specs.Reading.{piece_size}
use Rattle.line_reader.specs.declared.reading.Piece.{Piece}
use Rattle.line_reader.specs.declared.reading.Piece.TheVariants.{Bytes}
use Rattle.hac_top.specs.Ends.{IsFinished, finished_status}
use Rattle.hac_top.specs.Crashes.{Holds, IsTreeAfter, IsTreeOfAnswered}
use Rattle.hac_top.specs.Run.{AnswersAll, AnswersBy, AnswersTaken, AnswersWithin, AnswersPromptly, IsTreeOf, Outside, Played, Plays, given_after}
use Rattle.hac_top.specs.Ticking.{command_events}
use Rattle.hac_top.specs.TakenLines.{items_of_piece, items_of_taken, GivesTaken, IsLine, StopsIn, StopsLine}
use Rattle.hac_top.specs.declared.status.Status.{Status}
use Rattle.hac_top.specs.declared.status.Status.TheVariants.{Done, SomeRefused, ReadFault, WriteFault, Memory, TooLong}
use Rattle.hac_top.specs.declared.taking.TakenLine.{TakenLine}
use Rattle.hac_top.proofs.CrashLemmas.{all-answered, answered-first, answered-last, holds-weaker, may-be-answered, none-answered, tree-all, tree-of-all}
use Rattle.hac_top.proofs.GoesOn.{Goes, turns_of}
use Rattle.hac_top.proofs.TakenLemmas.{no_rest}
use Rattle.hac_top.proofs.TickLemmas.{given-further, play-line, scripts-joined, turns-joined}
use Rattle.hac_top.proofs.ReplyLemmas.{cuts-replies, front-turns, text-append, replies-whole}
use Rattle.line_reader.proofs.TakeLemmas.{no_bytes}
use Rattle.std.proofs.KnownBytes.{Appends-nil, Appends-trans}

pub play-nothing : (given : Given) (setting : Setting) → play given setting [] ≡ []
play-nothing given setting = ap (turns given setting) script-nothing

pub refusal-append : (xs ys : List Turn) → has_refusal (xs ++ ys) ≡ (has_refusal xs || has_refusal ys)
refusal-append xs ys = list_any-append (λ turn. is_refused turn.reply) xs ys

-- whole lines stay whole in front of anything
lines-joined : (n : ℕ) (a b : List ℕ) → AreLines n a → whole (a ++ b) ≡ a ++ whole b
lines-joined zero a b none = subst (λ (xs : List ℕ). whole (xs ++ b) ≡ xs ++ whole b) (sym none) refl
lines-joined (suc n) a b (line, taken, more, unended, asked, bytes, lines) =
    ap (λ (xs : List ℕ). whole (xs ++ b)) bytes ∙ ap whole (cut-append line taken more b) ∙ whole-line line taken (more ++ b) unended (sym asked)
    ∙ ap (λ (xs : List ℕ). (line ++ 10 ∷ taken) ++ xs) (lines-joined n more b lines) ∙ sym (append_assoc (line ++ 10 ∷ taken) more (whole b))
    ∙ ap (λ (xs : List ℕ). xs ++ whole b) (append_assoc line (10 ∷ taken) more ∙ sym bytes)

whole-joined : (a b : List ℕ) → whole a ≡ a → whole (a ++ b) ≡ a ++ whole b
whole-joined a b is =
    let lines = whole-lines a in
    lines-joined lines.0 a b (subst (AreLines lines.0) is lines.1)

-- the turns of one line, and of what follows it
own-turns : (given : Given) (z : Setting) (own : List ℕ) → after_item own ≡ [] → play given z own ≡ turns given z (first_items own)
own-turns given z own one =
    let now = turns given z (first_items own) in
    play-line given z own ∙ ap (λ (xs : List ℕ). now ++ play (given_after given now) (left_by z now) xs) one
    ∙ ap (λ (ts : List Turn). now ++ ts) (play-nothing (given_after given now) (left_by z now)) ∙ append-nil now

line-then : (given : Given) (z : Setting) (ended : Bool) (own rest : List ℕ) → IsLine ended own rest →
    play given z (own ++ rest) ≡ turns given z (first_items own) ++ play (given_after given (turns given z (first_items own))) (left_by z (turns given z (first_items own))) rest
line-then given z true own rest line =
    let now = turns given z (first_items own) in
    let none : rest ≡ [] = line.last refl in
    ap (λ (xs : List ℕ). play given z (own ++ xs)) none ∙ ap (play given z) (append-nil own) ∙ play-line given z own
    ∙ ap (λ (xs : List ℕ). now ++ play (given_after given now) (left_by z now) xs) (line.one ∙ sym none)
line-then given z false own rest line =
    scripts-joined given z own rest (line.whole_is refl) ∙ ap (λ (ts : List Turn). ts ++ play (given_after given ts) (left_by z ts) rest) (own-turns given z own line.one)

-- a run that stops once such a line was taken, with less than one piece behind it
pub line-stops : (line : TakenLine) (is_ended : Bool) (bytes behind left : List ℕ) → GivesTaken line is_ended bytes (behind ++ left) → length behind < piece_size → StopsIn Memory bytes left
line-stops line is_ended bytes behind left gives near =
    record { taken = gives.own ++ behind; bytes_are = gives.bytes_are ∙ sym (append_assoc gives.own behind left); line = gives.own; behind = behind; taken_is = refl; one = gives.line_is.one; near = near; cuts = tt }

-- a run that stops where nothing is pending
pub nothing-stops : (bytes left : List ℕ) → bytes ≡ left → StopsIn Memory bytes left
nothing-stops bytes left same = record { taken = []; bytes_are = same; line = []; behind = []; taken_is = refl; one = drop-nil (due (first_line [])); near = omega arith; cuts = tt }

-- a run that stops once less than one piece was taken
behind-stops : (behind left : List ℕ) → length behind < piece_size → StopsIn Memory (behind ++ left) left
behind-stops behind left near = record { taken = behind; bytes_are = refl; line = []; behind = behind; taken_is = refl; one = drop-nil (due (first_line [])); near = near; cuts = tt }

few-of : (given : Given) (piece : Piece) (taken : Option Taken) (setting : Setting) → length (turns given setting (items_of_piece piece taken)) ≤ 1
few-of given (Bytes line) taken setting = omega arith
few-of given other taken setting = omega arith

pub few-items : (given : Given) (line : TakenLine) (setting : Setting) → length (turns given setting (items_of_taken line)) ≤ 1
few-items given line setting = few-of given line.piece line.taken setting

-- what is pending is the turns of the line, and then those of the rest
pub turns-next : (given : Given) (line : TakenLine) (is_ended : Bool) (bytes rest : List ℕ) (setting : Setting) → GivesTaken line is_ended bytes rest →
    play given setting bytes
    ≡ turns given setting (items_of_taken line) ++ play (given_after given (turns given setting (items_of_taken line))) (left_by setting (turns given setting (items_of_taken line))) rest
turns-next given line is_ended bytes rest setting gives =
    ap (play given setting) gives.bytes_are ∙ line-then given setting is_ended gives.own rest gives.line_is
    ∙ ap (λ (items : List Item). turns given setting items ++ play (given_after given (turns given setting items)) (left_by setting (turns given setting items)) rest) (sym gives.items)

-- where a reply was cut, all before it are done
behind-done : (count : ℕ) (done now : List Turn) → (count ≡ length done) ⊎ (count ≡ length (done ++ now)) → length done ≤ count
behind-done count done now (inl is) = omega (arith, is)
behind-done count done now (inr is) = omega (arith, is, length-append done now)

module _ (given later : Given) (first : Setting) where
  module _ (s p : List ℕ) (ended : Bool) (setting : Setting) (refused : Bool) (before now : SinkSeen) (goes : Goes given later first s p ended setting refused before now) where
    items-are : turns_of given first goes.played goes.last ≡ turns given first (script goes.played ++ first_items goes.last)
    items-are = sym (turns-joined given first (script goes.played) (first_items goes.last))

    pub state-is : stored setting.state ≡ apply_all (stored first.state) (all_events (turns_of given first goes.played goes.last))
    state-is =
        ap (λ (z : Setting). stored z.state) (goes.left_is ∙ ap (left_by first) items-are) ∙ events-lead given first (script goes.played ++ first_items goes.last)
        ∙ ap (λ (ts : List Turn). apply_all (stored first.state) (all_events ts)) (sym items-are)

    pub turns-are : play given first s ≡ turns_of given first goes.played goes.last ++ play later setting p
    turns-are =
        let played = play given first goes.played in
        let on = given_after given played in
        let z = left_by first played in
        let now = turns on z (first_items goes.last) in
        ap (play given first) goes.script_is ∙ scripts-joined given first goes.played (goes.last ++ p) goes.lines
        ∙ ap (λ (ts : List Turn). play given first goes.played ++ ts) (line-then on z ended goes.last p goes.line_is) ∙ sym (append_assoc played now (play (given_after on now) (left_by z now) p))
        ∙ ap₂ (λ (w : Setting) (k : Given). turns_of given first goes.played goes.last ++ play k w p) (sym (goes.left_is ∙ left_by-append first played now)) (given-further given played now ∙ sym goes.given_is)

    -- all lines so far, which are whole while the source goes on
    done-is : turns_of given first goes.played goes.last ≡ play given first (goes.played ++ goes.last)
    done-is = sym (scripts-joined given first goes.played goes.last goes.lines ∙ ap (λ (ts : List Turn). play given first goes.played ++ ts) (own-turns (given_after given (play given first goes.played)) (left_by first (play given first goes.played)) goes.last goes.line_is.one))

    pub script-of : s ≡ (goes.played ++ goes.last) ++ p
    script-of = goes.script_is ∙ sym (append_assoc goes.played goes.last p)

    pub whole-so_far : ended ≡ false → whole (goes.played ++ goes.last) ≡ goes.played ++ goes.last
    whole-so_far on = whole-joined goes.played goes.last goes.lines ∙ ap (λ (xs : List ℕ). goes.played ++ xs) (goes.line_is.whole_is on)

    -- a run that stops within a line has answered all lines before it
    pub prompt-stop : (why : Status) (l : List ℕ) (is_ended : Bool) → ended ≡ is_ended → StopsIn why p l → AnswersPromptly given first s (length (turns_of given first goes.played goes.last)) (Some l)
    prompt-stop why l true is stops =
        let nothing : p ≡ [] = goes.line_is.last is in
        let no_left : l ≡ [] = no_rest stops.taken l (sym stops.bytes_are ∙ nothing) in
        let behind = turns (given_after given (play given first goes.played)) (left_by first (play given first goes.played)) (first_items goes.last) in
        record {
          answered = goes.played;
          line = goes.last;
          behind = [];
          rest = l;
          script_is = goes.script_is ∙ ap (λ (xs : List ℕ). goes.played ++ (goes.last ++ xs)) (nothing ∙ sym no_left);
          left_is = refl;
          whole_is = goes.lines;
          one = goes.line_is.one;
          near = omega arith;
          all = (length behind, front-turns (play given first s) (turns_of given first goes.played goes.last) (play later setting p) turns-are ∙ ap (λ (ts : List Turn). play given first goes.played ++ ts) (sym (take-length behind)));
        }
    prompt-stop why l false is stops =
        record {
          answered = goes.played ++ goes.last;
          line = stops.line;
          behind = stops.behind;
          rest = l;
          script_is = script-of ∙ ap (λ (xs : List ℕ). (goes.played ++ goes.last) ++ xs) (stops.bytes_are ∙ ap (λ (xs : List ℕ). xs ++ l) stops.taken_is ∙ append_assoc stops.line stops.behind l);
          left_is = refl;
          whole_is = whole-so_far is;
          one = stops.one;
          near = stops.near;
          all = (0, front-turns (play given first s) (turns_of given first goes.played goes.last) (play later setting p) turns-are ∙ done-is ∙ sym (append-nil (play given first (goes.played ++ goes.last))));
        }

    -- the whole lines that were taken are those that were played, where no whole line more was taken
    played-taken : (more : List ℕ) → ended ≡ false → whole more ≡ [] → take (length (turns_of given first goes.played goes.last)) (play given first s) ≡ play given first (whole ((goes.played ++ goes.last) ++ more))
    played-taken more on none =
        let so_far = goes.played ++ goes.last in
        front-turns (play given first s) (turns_of given first goes.played goes.last) (play later setting p) turns-are ∙ done-is
        ∙ ap (play given first) (sym (whole-joined so_far more (whole-so_far on) ∙ ap (λ (xs : List ℕ). (goes.played ++ goes.last) ++ xs) none ∙ append-nil so_far))

    -- the source failed
    fails : (l : List ℕ) → ended ≡ false → StopsIn ReadFault p l → AnswersTaken given first s (length (turns_of given first goes.played goes.last)) (Some l)
    fails l on stops =
        let cuts = stops.cuts in
        let same : stops.taken ≡ cuts.front = cuts.taken_is ∙ ap (λ (xs : List ℕ). cuts.front ++ xs) (no_bytes cuts.over cuts.over_is) ∙ append-nil cuts.front in
        record {
          taken = (goes.played ++ goes.last) ++ stops.taken;
          rest = l;
          script_is = script-of ∙ ap (λ (xs : List ℕ). (goes.played ++ goes.last) ++ xs) stops.bytes_are ∙ sym (append_assoc (goes.played ++ goes.last) stops.taken l);
          left_is = refl;
          all = played-taken stops.taken on (ap whole same ∙ cuts.none);
        }

    -- the script is too long
    passes : (l : List ℕ) (taken : ℕ) → ended ≡ false → StopsIn TooLong p l → taken ≡ SCRIPT_LIMIT + 1 → taken + length l ≡ 0 + length s → AnswersWithin given first s (length (turns_of given first goes.played goes.last)) (Some l)
    passes l taken on stops beyond total =
        let cuts = stops.cuts in
        let so_far = goes.played ++ goes.last in
        let within = so_far ++ cuts.front in
        let script_is : s ≡ ((goes.played ++ goes.last) ++ cuts.front) ++ (cuts.over ++ l) =
        script-of ∙ ap (λ (xs : List ℕ). (goes.played ++ goes.last) ++ xs) (stops.bytes_are ∙ ap (λ (xs : List ℕ). xs ++ l) cuts.taken_is ∙ append_assoc cuts.front cuts.over l) ∙ sym (append_assoc so_far cuts.front (cuts.over ++ l)) in
        let count : SCRIPT_LIMIT ≡ length ((goes.played ++ goes.last) ++ cuts.front) =
        omega (arith, total, beyond, cuts.over_is, ap length script_is, length-append ((goes.played ++ goes.last) ++ cuts.front) (cuts.over ++ l), length-append cuts.over l) in
        let front : take SCRIPT_LIMIT s ≡ (goes.played ++ goes.last) ++ cuts.front =
        ap (λ (xs : List ℕ). take SCRIPT_LIMIT xs) script_is ∙ ap (λ (n : ℕ). take n (within ++ (cuts.over ++ l))) count ∙ take-append_seam within (cuts.over ++ l) in
        let front_is : SCRIPT_LIMIT + 1 ≡ length (within ++ cuts.over) = omega (arith, count, cuts.over_is, length-append within cuts.over) in
        record {
          longer = omega (arith, total, beyond);
          left_is =
              ap Some (sym (ap (λ (xs : List ℕ). drop (SCRIPT_LIMIT + 1) xs) (script_is ∙ sym (append_assoc within cuts.over l)) ∙ ap (λ (n : ℕ). drop n ((within ++ cuts.over) ++ l)) front_is ∙ drop-append_seam (within ++ cuts.over) l));
          all = played-taken cuts.front on cuts.none ∙ ap (λ (xs : List ℕ). play given first (whole xs)) (sym front);
        }

    pub answers-stop : (status : Status) (l : List ℕ) (taken : ℕ) → StopsLine status → StopsIn status p l → ((status ≡ Memory → ⊥) → ended ≡ false) → (status ≡ TooLong → taken ≡ SCRIPT_LIMIT + 1) → taken + length l ≡ 0 + length s →
        AnswersBy given status first s (length (turns_of given first goes.played goes.last)) (Some l)
    answers-stop ReadFault l taken why stops on past total = fails l (on (λ e. cc)) stops
    answers-stop TooLong l taken why stops on past total = passes l taken (on (λ e. cc)) stops (past refl) total
    answers-stop Done l taken why stops on past total = absurd why
    answers-stop SomeRefused l taken why stops on past total = absurd why
    answers-stop other l taken why stops on past total = tt

    -- what a crash leaves while lines in hand are stored is a tree of the whole run
    pub tree-of-line : (items : List Item) (rest : List Turn) → play later setting p ≡ turns later setting items ++ rest → (c : List ℕ) → Holds (IsTreeAfter (stored setting.state) (all_events (turns later setting items))) c → Holds (IsTreeOf given first s) c
    tree-of-line items rest is c holds =
        let done = turns_of given first goes.played goes.last in
        let all_is : play given first s ≡ turns_of given first goes.played goes.last ++ (turns later setting items ++ rest) = turns-are ∙ ap (λ (ts : List Turn). turns_of given first goes.played goes.last ++ ts) is in
        holds-weaker (IsTreeAfter (stored setting.state) (all_events (turns later setting items))) (IsTreeOf given first s) c (λ t tree. tree-of-all (stored first.state) (stored setting.state) t (play given first s) done (turns later setting items) rest all_is state-is tree) holds

    -- what a crash leaves where none of the events of the command in hand are missing that were stored, and it isn't answered
    pub answered-so_far : (here rest : List Turn) → play later setting p ≡ here ++ rest → (c : List ℕ) → Holds (IsTreeOfAnswered (stored setting.state) here 0) c →
        Holds (IsTreeOfAnswered (stored first.state) (play given first s) (length (turns_of given first goes.played goes.last))) c
    answered-so_far here rest is c holds =
        let done = turns_of given first goes.played goes.last in
        let all_is : play given first s ≡ turns_of given first goes.played goes.last ++ (here ++ rest) = turns-are ∙ ap (λ (ts : List Turn). turns_of given first goes.played goes.last ++ ts) is in
        holds-weaker (IsTreeOfAnswered (stored setting.state) here 0) (IsTreeOfAnswered (stored first.state) (play given first s) (length (turns_of given first goes.played goes.last))) c
        (λ t tree. answered-first (stored first.state) (stored setting.state) t (play given first s) done here rest all_is state-is tree) holds

    -- the same where nothing is in hand
    pub answered-held : (c : List ℕ) → held c ≡ Ok (stored_setting setting) → Holds (IsTreeOfAnswered (stored first.state) (play given first s) (length (turns_of given first goes.played goes.last))) c
    answered-held c is =
        record {
          kept = stored_setting setting;
          is = is;
          state = all-answered (stored first.state) (stored setting.state) (play given first s) (turns_of given first goes.played goes.last) (play later setting p) turns-are state-is;
        }

  -- a run that ends with all replies that it began
  abbrev pub plays-stop : (status why : Status) (s p l : List ℕ) (ended : Bool) (setting : Setting) (refused : Bool) (before after : Outside) (goes : Goes given later first s p ended setting refused before.sink after.sink) →
      Some l ≡ after.source.left → (before.sink.held_back ≡ 0 → after.sink.held_back ≡ 0) → StopsIn why p l → AnswersBy given status first s (length (turns_of given first goes.played goes.last)) (Some l) →
      ((n : ℕ) → length (turns_of given first goes.played goes.last) ≤ n → after.probes ≤ before.probes + lines_cost given first (take (n + 1) (script s))) → Plays given status first s before after
  plays-stop status why s p l ended setting refused before after goes left_is passed stops answers asks =
      record {
        replies =
            replies-whole (play given first s) (turns_of given first goes.played goes.last) (play later setting p) before.sink after.sink (turns-are s p ended setting refused before.sink after.sink goes) goes.written
            (λ none. omega (arith, passed none));
        whole = λ _. refl;
        prompt = subst (λ (o : Option (List ℕ)). AnswersPromptly given first s (length (turns_of given first goes.played goes.last)) o) left_is (prompt-stop s p ended setting refused before.sink after.sink goes why l ended refl stops);
        answers = subst (λ (o : Option (List ℕ)). AnswersBy given status first s (length (turns_of given first goes.played goes.last)) o) left_is answers;
        asks = asks (length (turns_of given first goes.played goes.last)) (omega arith);
      }

  -- a crash leaves what was answered then
  pub played-stop : (stood : Type 0) (image : List ℕ → Type 0) (writes : ℕ → Type 0) (status why : Status) (s p l : List ℕ) (ended : Bool) (setting : Setting) (refused : Bool) (before after : Outside) (goes : Goes given later first s p ended setting refused before.sink after.sink) →
      Some l ≡ after.source.left → (before.sink.held_back ≡ 0 → after.sink.held_back ≡ 0) → StopsIn why p l → AnswersBy given status first s (length (turns_of given first goes.played goes.last)) (Some l) →
      ((n : ℕ) → length (turns_of given first goes.played goes.last) ≤ n → after.probes ≤ before.probes + lines_cost given first (take (n + 1) (script s))) →
      (stood → (c : List ℕ) → image c → Holds (IsTreeOfAnswered (stored first.state) (play given first s) (length (turns_of given first goes.played goes.last))) c) →
      (stood → IsFinished status → (c : List ℕ) → image c → held c ≡ Ok (stored_setting (left_by first (play given first s)))) → writes (length (turns_of given first goes.played goes.last)) → Played false given status first s before after stood image writes
  played-stop stood image writes status why s p l ended setting refused before after goes left_is passed stops answers asks answered kept wrote =
      record { plays = plays-stop status why s p l ended setting refused before after goes left_is passed stops answers asks; wrote = wrote; reopens = answered; kept = kept }

  answers-finished : (refused : Bool) (s : List ℕ) (done : ℕ) (left : Option (List ℕ)) → AnswersAll given (finished_status refused) first s done left → AnswersBy given (finished_status refused) first s done left
  answers-finished true s done left all = all
  answers-finished false s done left all = all

  -- where nothing is pending all turns were answered
  all-turns : (s p : List ℕ) (ended : Bool) (setting : Setting) (refused : Bool) (before now : SinkSeen) (goes : Goes given later first s p ended setting refused before now) → p ≡ [] →
      play given first s ≡ turns_of given first goes.played goes.last
  all-turns s p ended setting refused before now goes none =
      turns-are s p ended setting refused before now goes ∙ ap (λ (xs : List ℕ). turns_of given first goes.played goes.last ++ play later setting xs) none
      ∙ ap (λ (ts : List Turn). turns_of given first goes.played goes.last ++ ts) (play-nothing later setting) ∙ append-nil (turns_of given first goes.played goes.last)

  -- and the setting is what they left
  pub left-end : (s p : List ℕ) (ended : Bool) (setting : Setting) (refused : Bool) (before now : SinkSeen) (goes : Goes given later first s p ended setting refused before now) → p ≡ [] →
      setting ≡ left_by first (play given first s)
  left-end s p ended setting refused before now goes none = goes.left_is ∙ ap (left_by first) (sym (all-turns s p ended setting refused before now goes none))

  -- the script has ended
  pub played-end : (stood : Type 0) (image : List ℕ → Type 0) (writes : ℕ → Type 0) (s p l behind : List ℕ) (taken : ℕ) (ended : Bool) (setting : Setting) (refused : Bool) (before after : Outside) (goes : Goes given later first s p ended setting refused before.sink after.sink) →
      Some l ≡ after.source.left → (before.sink.held_back ≡ 0 → after.sink.held_back ≡ 0) → (p ≡ []) × (behind ++ l ≡ []) → taken + length l ≡ 0 + length s → taken ≤ SCRIPT_LIMIT →
      ((n : ℕ) → length (turns_of given first goes.played goes.last) ≤ n → after.probes ≤ before.probes + lines_cost given first (take (n + 1) (script s))) → (stood → (c : List ℕ) → image c → held c ≡ Ok (stored_setting setting)) →
      writes (length (turns_of given first goes.played goes.last)) → Played false given (finished_status refused) first s before after stood image writes
  played-end stood image writes s p l behind taken ended setting refused before after goes left_is passed none total within asks stands wrote =
      let done = turns_of given first goes.played goes.last in
      let nothing : l ≡ [] = no_rest behind l none.1 in
      let all : play given first s ≡ turns_of given first goes.played goes.last = all-turns s p ended setting refused before.sink after.sink goes none.0 in
      let answers : AnswersAll given (finished_status refused) first s (length (turns_of given first goes.played goes.last)) (Some l) =
      record { read = ap Some nothing; within = omega (arith, total, within, ap length nothing); status_is = ap finished_status (goes.refused_is ∙ ap has_refusal (sym all)); all = ap length (sym all) } in
      played-stop stood image writes (finished_status refused) Memory s p l ended setting refused before after goes left_is passed (nothing-stops p l (none.0 ∙ sym nothing)) (answers-finished refused s (length done) (Some l) answers) asks
      (λ stood_now c left. answered-held s p ended setting refused before.sink after.sink goes c (stands stood_now c left))
      (λ stood_now _ c left. stands stood_now c left ∙ ap (λ (z : Setting). Ok (stored_setting z)) (left-end s p ended setting refused before.sink after.sink goes none.0)) wrote

  -- the sink failed while a line was answered, whose events were stored before
  pub played-cut : (stood : Type 0) (image : List ℕ → Type 0) (writes : ℕ → Type 0) (s p l behind : List ℕ) (line : TakenLine) (new_ended : Bool) (setting : Setting) (refused : Bool) (mid : SinkSeen) (before after : Outside) →
      (goes : Goes given later first s p false setting refused before.sink mid) → Some l ≡ after.source.left → (before.sink.held_back ≡ 0 → mid.held_back ≡ 0) → GivesTaken line new_ended p (behind ++ l) → length behind < piece_size →
      ((n : ℕ) → length (turns_of given first goes.played goes.last) ≤ n → after.probes ≤ before.probes + lines_cost given first (take (n + 1) (script s))) →
      WritesSome mid after.sink (turns_text (turns later setting (items_of_taken line))) → (stood → (c : List ℕ) → image c → Holds (λ now. now ≡ apply_all (stored setting.state) (command_events (turns later setting (items_of_taken line)))) c) →
      ((n : ℕ) → (n ≡ length (turns_of given first goes.played goes.last)) ⊎ (n ≡ length (turns_of given first goes.played goes.last ++ turns later setting (items_of_taken line))) → writes n) → Played false given WriteFault first s before after stood image writes
  played-cut stood image writes s p l behind line new_ended setting refused mid before after goes left_is passed gives near asks some was_stored wrote =
      let now = turns later setting (items_of_taken line) in
      let done = turns_of given first goes.played goes.last in
      let rest = play (given_after later now) (left_by setting now) (behind ++ l) in
      let all_is : play given first s ≡ turns_of given first goes.played goes.last ++ (now ++ rest) =
      turns-are s p false setting refused before.sink mid goes ∙ ap (λ (ts : List Turn). turns_of given first goes.played goes.last ++ ts) (turns-next later line new_ended p (behind ++ l) setting gives) in
      let state_is = state-is s p false setting refused before.sink mid goes in
      let stopped = cuts-replies (play given first s) done now rest before.sink mid after.sink some.count all_is (few-items later line setting) goes.written passed some.front in
      let so_far = goes.played ++ goes.last in
      let done_is = done-is s p false setting refused before.sink mid goes in
      let now_is : turns later setting (items_of_taken line) ≡ turns (given_after given (play given first (goes.played ++ goes.last))) (left_by first (play given first (goes.played ++ goes.last))) (first_items gives.own) =
      ap₂ (λ (z : Setting) (k : Given). turns k z (items_of_taken line)) (goes.left_is ∙ ap (left_by first) done_is) (goes.given_is ∙ ap (given_after given) done_is)
      ∙ ap (turns (given_after given (play given first so_far)) (left_by first (play given first so_far))) gives.items in
      let prompt : AnswersPromptly given first s stopped.replies.done (Some l) =
      record {
        answered = so_far;
        line = gives.own;
        behind = behind;
        rest = l;
        script_is = script-of s p false setting refused before.sink mid goes ∙ ap (λ (xs : List ℕ). (goes.played ++ goes.last) ++ xs) gives.bytes_are;
        left_is = refl;
        whole_is = whole-so_far s p false setting refused before.sink mid goes refl;
        one = gives.line_is.one;
        near = near;
        all = (stopped.front.0, stopped.front.1 ∙ ap (λ (ts : List Turn). ts ++ take stopped.front.0 now) done_is ∙ ap (λ (ts : List Turn). play given first (goes.played ++ goes.last) ++ take stopped.front.0 ts) now_is);
      } in
      -- either none of its replies was written whole, or the one that there is
      let answered : (t : State) → t ≡ apply_all (stored setting.state) (command_events (turns later setting (items_of_taken line))) → (count : ℕ) →
      (count ≡ length (turns_of given first goes.played goes.last)) ⊎ (count ≡ length (turns_of given first goes.played goes.last ++ now)) → IsTreeOfAnswered (stored first.state) (play given first s) count t = λ t is count.
      elim [
        | inl place ↦
            subst (λ (n : ℕ). IsTreeOfAnswered (stored first.state) (play given first s) n t) (sym place)
            (answered-first (stored first.state) (stored setting.state) t (play given first s) done now rest all_is state_is
            (none-answered (stored setting.state) t now (few-items later line setting) (tree-all (stored setting.state) t (command_events now) is)))
        | inr place ↦
            subst (λ (n : ℕ). IsTreeOfAnswered (stored first.state) (play given first s) n t) (sym place)
            (answered-last (stored first.state) (stored setting.state) t (play given first s) done now rest all_is (few-items later line setting) state_is
            (may-be-answered (stored setting.state) t now (few-items later line setting) is))
      ] in
      record {
        plays = record {
          replies = stopped.replies;
          whole = λ no_write. absurd (no_write refl);
          prompt = subst (λ (o : Option (List ℕ)). AnswersPromptly given first s stopped.replies.done o) left_is prompt;
          answers = tt;
          asks = asks stopped.replies.done (behind-done stopped.replies.done done now stopped.place);
        };
        wrote = wrote stopped.replies.done stopped.place;
        reopens = λ stands c left.
            let holds = was_stored stands c left in
            record { kept = holds.kept; is = holds.is; state = answered (stored holds.kept.state) holds.state stopped.replies.done stopped.place };
        kept = λ _ finished. absurd finished;
      }

  -- the turns once one line more was answered
  pub more-turns : (s p q : List ℕ) (line : TakenLine) (new_ended : Bool) (setting : Setting) (refused : Bool) (before mid : SinkSeen) (goes : Goes given later first s p false setting refused before mid) (gives : GivesTaken line new_ended p q) →
      turns_of given first (goes.played ++ goes.last) gives.own ≡ turns_of given first goes.played goes.last ++ turns later setting (items_of_taken line)
  more-turns s p q line new_ended setting refused before mid goes gives =
      let done = turns_of given first goes.played goes.last in
      ap (λ (ts : List Turn). ts ++ turns (given_after given ts) (left_by first ts) (first_items gives.own)) (sym (done-is s p false setting refused before mid goes))
      ∙ ap (λ (ts : List Turn). done ++ ts)
      (ap₂ (λ (w : Setting) (k : Given). turns k w (first_items gives.own)) (sym goes.left_is) (sym goes.given_is) ∙ ap (turns later setting) (sym gives.items))

  -- a run goes on by a line that was answered
  abbrev pub goes-on : (s p q : List ℕ) (line : TakenLine) (new_ended : Bool) (setting : Setting) (refused : Bool) (before mid after : SinkSeen) → Goes given later first s p false setting refused before mid → GivesTaken line new_ended p q →
      Appends mid.written after.written (turns_text (turns later setting (items_of_taken line))) →
      Goes given (given_after later (turns later setting (items_of_taken line))) first s q new_ended (left_by setting (turns later setting (items_of_taken line))) (refused || has_refusal (turns later setting (items_of_taken line))) before after
  goes-on s p q line new_ended setting refused before mid after goes gives written =
      let now = turns later setting (items_of_taken line) in
      let done = turns_of given first goes.played goes.last in
      let so_far = goes.played ++ goes.last in
      let more = more-turns s p q line new_ended setting refused before mid goes gives in
      record {
        played = so_far;
        last = gives.own;
        script_is = script-of s p false setting refused before mid goes ∙ ap (λ (xs : List ℕ). (goes.played ++ goes.last) ++ xs) gives.bytes_are;
        lines = whole-so_far s p false setting refused before mid goes refl;
        line_is = gives.line_is;
        given_is = ap (λ (k : Given). given_after k now) goes.given_is ∙ given-further given done now ∙ ap (given_after given) (sym more);
        left_is = ap (λ (z : Setting). left_by z now) goes.left_is ∙ sym (left_by-append first done now) ∙ ap (left_by first) (sym more);
        written =
            subst (λ (xs : List ℕ). Appends before.written after.written xs) (sym (ap turns_text more ∙ text-append done now))
            (Appends-trans before.written mid.written after.written (turns_text done) (turns_text now) goes.written written);
        refused_is = ap (λ (b : Bool). b || has_refusal now) goes.refused_is ∙ sym (ap has_refusal more ∙ refusal-append done now);
      }

  pub goes-next : (s p q : List ℕ) (line : TakenLine) (new_ended : Bool) (setting : Setting) (refused : Bool) (before mid after : SinkSeen) → Goes given later first s p false setting refused before mid → GivesTaken line new_ended p q →
      Appends mid.written after.written (turns_text (turns later setting (items_of_taken line))) →
      Goes given (given_after later (turns later setting (items_of_taken line))) first s q new_ended (left_by setting (turns later setting (items_of_taken line))) (refused || has_refusal (turns later setting (items_of_taken line))) before after
  goes-next s p q line new_ended setting refused before mid after goes gives written = goes-on s p q line new_ended setting refused before mid after goes gives written

  -- while a line is pending, the source goes on
  pub open-goes : (s p : List ℕ) (ended : Bool) (setting : Setting) (refused : Bool) (before now : SinkSeen) → Goes given later first s p ended setting refused before now → (line : TakenLine) (new_ended : Bool) (q : List ℕ) → GivesTaken line new_ended p q → Goes given later first s p false setting refused before now
  open-goes s p true setting refused before now goes line new_ended q gives = absurd (omega (arith, gives.some, ap length gives.bytes_are, length-append gives.own q, ap length (goes.line_is.last refl)))
  open-goes s p false setting refused before now goes line new_ended q gives = goes

  -- a sink that is as before has what was written
  abbrev pub goes-same : (s p : List ℕ) (ended : Bool) (setting : Setting) (refused : Bool) (before now after : SinkSeen) → Goes given later first s p ended setting refused before now → after ≡ now →
      Goes given later first s p ended setting refused before after
  goes-same s p ended setting refused before now after goes same =
      record {
        played = goes.played;
        last = goes.last;
        script_is = goes.script_is;
        lines = goes.lines;
        line_is = goes.line_is;
        given_is = goes.given_is;
        left_is = goes.left_is;
        written = subst (λ (k : SinkSeen). Appends before.written k.written (turns_text (turns_of given first goes.played goes.last))) (sym same) goes.written;
        refused_is = goes.refused_is;
      }

  -- no line was answered yet
  abbrev pub goes-first : (s : List ℕ) (refused : Bool) (sink : SinkSeen) → later ≡ given → refused ≡ false → Goes given later first s s false first refused sink sink
  goes-first s refused sink same unrefused =
      let none : turns_of given first [] [] ≡ [] = append-nil (play given first []) ∙ play-nothing given first in
      record {
        played = [];
        last = [];
        script_is = refl;
        lines = whole-unended [] refl;
        line_is = record { one = drop-nil (due (first_line [])); whole_is = λ _. whole-unended [] refl; last = λ e. absurd cc };
        given_is = same ∙ ap (given_after given) (sym none);
        left_is = ap (left_by first) (sym none);
        written = subst (λ (ts : List Turn). Appends sink.written sink.written (turns_text ts)) (sym none) (Appends-nil sink.written);
        refused_is = unrefused ∙ ap has_refusal (sym none);
      }

module _ (given later : Given) (first : Setting) where
  -- a run that stops behind the reply to a line, at the steps that follow it
  pub played-behind : (stood : Type 0) (image : List ℕ → Type 0) (writes : ℕ → Type 0) (status : Status) (s p l behind : List ℕ) (line : TakenLine) (new_ended : Bool) (setting : Setting) (refused : Bool) (mid : SinkSeen) (before after : Outside) →
      (goes : Goes given later first s p false setting refused before.sink mid) → Some l ≡ after.source.left → (before.sink.held_back ≡ 0 → after.sink.held_back ≡ 0) → GivesTaken line new_ended p (behind ++ l) → length behind < piece_size →
      ((n : ℕ) → length (turns_of given first goes.played goes.last) ≤ n → after.probes ≤ before.probes + lines_cost given first (take (n + 1) (script s))) →
      Appends mid.written after.sink.written (turns_text (turns later setting (items_of_taken line))) → ((done : ℕ) → AnswersBy given status first s done (Some l)) → (IsFinished status → ⊥) →
      (stood → (c : List ℕ) → image c → Holds (IsTreeOfAnswered (stored setting.state) (turns later setting (items_of_taken line)) (length (turns later setting (items_of_taken line)))) c) →
      writes (length (turns_of given first goes.played goes.last ++ turns later setting (items_of_taken line))) → Played false given status first s before after stood image writes
  played-behind stood image writes status s p l behind line new_ended setting refused mid before after goes left_is passed gives near asks written answers unfinished some wrote =
      let now = turns later setting (items_of_taken line) in
      let done = turns_of given first goes.played goes.last in
      let rest = play (given_after later now) (left_by setting now) (behind ++ l) in
      let all_is : play given first s ≡ turns_of given first goes.played goes.last ++ (now ++ rest) =
      turns-are given later first s p false setting refused before.sink mid goes ∙ ap (λ (ts : List Turn). turns_of given first goes.played goes.last ++ ts) (turns-next later line new_ended p (behind ++ l) setting gives) in
      let state_is = state-is given later first s p false setting refused before.sink mid goes in
      let more = more-turns given later first s p (behind ++ l) line new_ended setting refused before.sink mid goes gives in
      let count = length (turns_of given first (goes.played ++ goes.last) gives.own) in
      played-stop given (given_after later now) first stood image writes status Memory s (behind ++ l) l new_ended (left_by setting now) (refused || has_refusal now) before after
      (goes-on given later first s p (behind ++ l) line new_ended setting refused before.sink mid after.sink goes gives written) left_is passed (behind-stops behind l near) (answers count)
      (λ n few. asks n (omega (arith, few, ap length more, length-append done now)))
      (λ stands c left.
      holds-weaker (IsTreeOfAnswered (stored setting.state) now (length now)) (IsTreeOfAnswered (stored first.state) (play given first s) count) c
      (λ t tree.
      subst (λ (ts : List Turn). IsTreeOfAnswered (stored first.state) (play given first s) (length ts) t) (sym more)
      (answered-last (stored first.state) (stored setting.state) t (play given first s) done now rest all_is (few-items later line setting) state_is tree)) (some stands c left))
      (λ _ finished. absurd (unfinished finished)) (subst (λ (ts : List Turn). writes (length ts)) (sym more) wrote)
