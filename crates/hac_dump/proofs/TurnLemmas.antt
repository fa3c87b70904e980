-- A command against which there is nothing, and commands one after the other.
use Rattle.std.proofs.Common.{◌≡◌, ℕ, ◌+◌, ◌<◌, ◌≤◌, Bool, true, false, List, [], ◌∷◌, ◌++◌, length, map, subst, refl, ap, sym, ◌∙◌, arith, append_assoc}
use Rattle.std.specs.Prelude.{nat_lt, if◌then◌else◌, Option, Some, None, Result, Ok, is_some}
use Rattle.std.specs.List.{AllByRecursion}
use Rattle.std.specs.Option.{option_map, option_map_or}
use Rattle.std.proofs.lemmas.Bool.{lt-ltb, ltb-true}
use Rattle.std.proofs.lemmas.List.{append-nil}
use Rattle.hac_model.specs.Run.Answers.{first_cause}
use Rattle.hac_model.specs.Run.Asks.{asks, no_asks}
use Rattle.hac_model.specs.Run.Play.{Setting, Turn, absent_cause, all_events, answered_turn, carried_out, command_turn, data_lines, end_after, end_behind, events_in, fits_store, happened, have_room, is_checkpoint, checkpointed, item_turn, left_by, next_place, no_answers, given_spaces, refused_turn, stored_events, turn_cause, turn_of, turns}
use Rattle.hac_model.specs.Run.Refusals.{early_cause, late_cause, led_to}
use Rattle.hac_model.specs.Run.Resolving.{resolve}
use Rattle.hac_model.specs.Script.Lines.{Item}
use Rattle.hac_model.specs.Script.SessionWords.{main_session}
use Rattle.hac_model.specs.Spaces.Answering.{Attached, answers_of, asked_spaces, first_absent}
use Rattle.hac_model.specs.Payload.Payloads.{event_text}
use Rattle.hac_model.specs.Versions.{store_limit}
use Rattle.hac_model.specs.declared.commands.Command.{Command}
use Rattle.hac_model.specs.declared.commands.Line.{Line}
use Rattle.hac_model.specs.declared.events.Event.{Event}
use Rattle.hac_model.specs.declared.limits.LimitWord.TheVariants.{Store}
use Rattle.hac_model.specs.declared.replies.Refusal.{Refusal}
use Rattle.hac_model.specs.declared.replies.Refusal.TheVariants.{Limit, NoSpace}
use Rattle.hac_model.specs.declared.replies.Reply.TheVariants.{Lines}
use Rattle.hac_model.specs.declared.resolved.Resolved.{Resolved}
use Rattle.hac_model.specs.declared.spaces.Answers.{Answers}
use Rattle.hac_model.specs.declared.spaces.Asks.{Asks}
use Rattle.hac_model.specs.declared.states.State.{State}
use Rattle.hac_model.specs.declared.versions.Version.{Version}
use Rattle.hac_model.proofs.PlayLemmas.{end_behind-append}
use Rattle.hac_dump.specs.Laws.{AllOk, HasRoom}

-- a command as a line of the session that every script begins with
abbrev pub main_line : Command → Line
main_line command = record { session = main_session; command = command }

-- the commands as items of a script
abbrev pub items : List Command → List Item
items commands = map (λ command. Ok (main_line command)) commands

-- nothing is against a command in a state, it makes these events that are stored, and leads to another state
pub record Passes (u : State) (command : Command) (events : List Event) (v : State) : Type 0 where
  pub resolved_as : Resolved
  pub resolves : resolve u (main_line command) ≡ Ok resolved_as
  pub early : early_cause u resolved_as ≡ None
  pub late : late_cause no_answers u resolved_as ≡ None
  pub unasked : asks u resolved_as ≡ no_asks
  pub unsaved : is_checkpoint resolved_as ≡ false
  pub quiet : data_lines no_answers u resolved_as ≡ []
  pub stored : stored_events no_answers u resolved_as ≡ events
  pub leads : led_to no_answers u resolved_as ≡ v

-- what a setting becomes
abbrev pub moved_on : Setting → List Event → State → Setting
moved_on setting events v = record setting { state = v; end = end_after setting events }

-- turns that answer `ok`, make these events, and leave this setting
pub record AreFine (setting : Setting) (done : List Turn) (events : List Event) (v : State) : Type 0 where
  pub ok : AllOk done
  pub made : all_events done ≡ events
  pub left : left_by setting done ≡ moved_on setting events v

-- commands lead from one state to another with these events, wherever there is room for their records
abbrev pub Plays : State → List Command → List Event → State → Type 0
Plays u commands events v =
    (spaces : List Attached) (setting : Setting) → setting.state ≡ u → HasRoom setting events → AreFine setting (turns (given_spaces spaces) setting (items commands)) events v

room-one : (setting : Setting) (events : List Event) → HasRoom setting events → have_room setting events ≡ true
room-one setting [] h = refl
room-one setting (e ∷ events) h = h

-- the turn of a command against which there is nothing
one-turn : (spaces : List Attached) (u v : State) (command : Command) (events : List Event) (setting : Setting) → Passes u command events v → setting.state ≡ u → HasRoom setting events →
    item_turn (given_spaces spaces) setting (Ok (main_line command)) ≡ record { reply = Lines []; events = events; steps = []; after = moved_on setting events v }
one-turn spaces u v command events setting p is room =
    ap (λ (r : Result Resolved Refusal). command_turn (given_spaces spaces) setting r) leads
    ∙ ap (λ (a : Asks). turn_by (answers_of spaces a)) asked
    ∙ ap (λ (o : Option Refusal). option_map_or (refused_turn (given_spaces spaces) setting) o (answered_turn (given_spaces spaces) setting r no_answers)) free
    ∙ told
  where
    r : Resolved
    r = p.resolved_as

    leads : resolve setting.state (main_line command) ≡ Ok r
    leads = ap (λ (s : State). resolve s (main_line command)) is ∙ p.resolves

    asked : asks setting.state r ≡ no_asks
    asked = ap (λ (s : State). asks s r) is ∙ p.unasked

    turn_by : Answers → Turn
    turn_by answers = option_map_or (refused_turn (given_spaces spaces) setting) (turn_cause (given_spaces spaces) setting r answers) (answered_turn (given_spaces spaces) setting r answers)

    absent : absent_cause (given_spaces spaces) setting.state r ≡ None
    absent = ap (λ (a : Asks). option_map NoSpace (first_absent spaces (asked_spaces a))) asked

    stores : stored_events no_answers setting.state r ≡ events
    stores = ap (λ (s : State). stored_events no_answers s r) is ∙ p.stored

    fits : fits_store no_answers setting r ≡ true
    fits =
        ap (λ (b : Bool). if b then is_some (next_place setting) else have_room setting (stored_events no_answers setting.state r)) p.unsaved
        ∙ ap (have_room setting) stores
        ∙ room-one setting events room

    free : turn_cause (given_spaces spaces) setting r no_answers ≡ None
    free = λ i. first_cause (
        (ap (λ (s : State). early_cause s r) is ∙ p.early) i
        ∷ absent i
        ∷ (ap (λ (s : State). late_cause no_answers s r) is ∙ p.late) i
        ∷ (ap (λ (b : Bool). if b then None else Some (Limit Store)) fits) i
        ∷ [])

    carried : carried_out no_answers setting r ≡ moved_on setting events v
    carried =
        ap (λ (b : Bool). if b then option_map_or (checkpointed setting) (next_place setting) setting else happened no_answers setting r) p.unsaved
        ∙ (λ i. record setting { state = (ap (λ (s : State). led_to no_answers s r) is ∙ p.leads) i; end = end_after setting (stores i) })

    told : answered_turn (given_spaces spaces) setting r no_answers ≡ record { reply = Lines []; events = events; steps = []; after = moved_on setting events v }
    told = λ i. turn_of (given_spaces spaces) (Lines ((ap (λ (s : State). data_lines no_answers s r) is ∙ p.quiet) i)) (stores i) (carried i)

pub plays-one : (u v : State) (command : Command) (events : List Event) → Passes u command events v → Plays u (command ∷ []) events v
plays-one u v command events p spaces setting is room =
    let turn = one-turn spaces u v command events setting p is room in
    subst (λ (t : Turn). AreFine setting (t ∷ []) events v) (sym turn)
    (record { ok = (refl, tt); made = append-nil (events ++ []) ∙ append-nil events; left = refl })

pub plays-none : (u : State) → Plays u [] [] u
plays-none u spaces setting is room = record { ok = tt; made = refl; left = ap (λ (s : State). record setting { state = s }) is }

-- ---- one after the other

all-both : {X : Type 0} (P : X → Type 0) (xs ys : List X) → AllByRecursion P xs → AllByRecursion P ys → AllByRecursion P (xs ++ ys)
all-both P [] ys h k = k
all-both P (x ∷ xs) ys h k = (h.0, all-both P xs ys h.1 k)

events-append : (xs ys : List Turn) → all_events (xs ++ ys) ≡ all_events xs ++ all_events ys
events-append [] ys = refl
events-append (x ∷ xs) ys = ap (λ (rest : List Event). events_in x ++ rest) (events-append xs ys) ∙ sym (append_assoc (events_in x) (all_events xs) (all_events ys))

left-append : (setting : Setting) (xs ys : List Turn) → left_by setting (xs ++ ys) ≡ left_by (left_by setting xs) ys
left-append setting [] ys = refl
left-append setting (x ∷ xs) ys = left-append x.after xs ys

turns-append : (spaces : List Attached) (setting : Setting) (xs ys : List Item) → turns (given_spaces spaces) setting (xs ++ ys) ≡ turns (given_spaces spaces) setting xs ++ turns (given_spaces spaces) (left_by setting (turns (given_spaces spaces) setting xs)) ys
turns-append spaces setting [] ys = refl
turns-append spaces setting (x ∷ xs) ys = ap (λ (rest : List Turn). item_turn (given_spaces spaces) setting x ∷ rest) (turns-append spaces (item_turn (given_spaces spaces) setting x).after xs ys)

items-append : (xs ys : List Command) → items (xs ++ ys) ≡ items xs ++ items ys
items-append [] ys = refl
items-append (x ∷ xs) ys = ap (λ (rest : List Item). Ok (main_line x) ∷ rest) (items-append xs ys)

-- records only add to a log
end-grows : (version : Version) (events : List Event) (end : ℕ) → end ≤ end_behind version end events
end-grows version [] end = omega arith
end-grows version (e ∷ events) end = omega (arith, end-grows version events (end + 5 + length (event_text version e)))

room-before : (setting : Setting) (xs ys : List Event) → HasRoom setting (xs ++ ys) → HasRoom setting xs
room-before setting xs ys room =
    let version = setting.state.version in
    let less : end_behind version setting.end (xs ++ ys) < store_limit version = ltb-true (end_behind version setting.end (xs ++ ys)) (store_limit version) room in
    let grows = end-grows version ys (end_behind version setting.end xs) in
    lt-ltb (end_behind version setting.end xs) (store_limit version) (omega (arith, less, grows, end_behind-append version xs ys setting.end))

room-behind : (setting : Setting) (xs ys : List Event) (v : State) → v.version ≡ setting.state.version → HasRoom setting (xs ++ ys) → HasRoom (moved_on setting xs v) ys
room-behind setting xs ys v same room =
    (λ i. nat_lt (end_behind (same i) (end_behind setting.state.version setting.end xs) ys) (store_limit (same i)))
    ∙ ap (λ (k : ℕ). nat_lt k (store_limit setting.state.version)) (sym (end_behind-append setting.state.version xs ys setting.end))
    ∙ room

-- commands that lead to a state, and others that lead on from there
pub plays-both : (u v w : State) (xs ys : List Command) (es fs : List Event) → v.version ≡ u.version → Plays u xs es v → Plays v ys fs w → Plays u (xs ++ ys) (es ++ fs) w
plays-both u v w xs ys es fs same first second spaces setting is room =
    let one = first spaces setting is (room-before setting es fs room) in
    let next : Setting = left_by setting (turns (given_spaces spaces) setting (items xs)) in
    let two = second spaces (moved_on setting es v) refl (room-behind setting es fs v (same ∙ sym (ap (λ (s : State). s.version) is)) room) in
    let there : AreFine (moved_on setting es v) (turns (given_spaces spaces) next (items ys)) fs w = subst (λ (n : Setting). AreFine (moved_on setting es v) (turns (given_spaces spaces) n (items ys)) fs w) (sym one.left) two in
    let split : turns (given_spaces spaces) setting (items (xs ++ ys)) ≡ turns (given_spaces spaces) setting (items xs) ++ turns (given_spaces spaces) next (items ys) =
    ap (turns (given_spaces spaces) setting) (items-append xs ys) ∙ turns-append spaces setting (items xs) (items ys) in
    subst (λ (ts : List Turn). AreFine setting ts (es ++ fs) w) (sym split)
    (record {
      ok = all-both (λ turn. turn.reply ≡ Lines []) (turns (given_spaces spaces) setting (items xs)) (turns (given_spaces spaces) next (items ys)) one.ok there.ok;
      made = events-append (turns (given_spaces spaces) setting (items xs)) (turns (given_spaces spaces) next (items ys)) ∙ (λ i. one.made i ++ there.made i);
      left =
          left-append setting (turns (given_spaces spaces) setting (items xs)) (turns (given_spaces spaces) next (items ys))
          ∙ ap (λ (n : Setting). left_by n (turns (given_spaces spaces) next (items ys))) one.left
          ∙ there.left
          ∙ joined is same;
    })
  where
    joined : setting.state ≡ u → v.version ≡ u.version → moved_on (moved_on setting es v) fs w ≡ moved_on setting (es ++ fs) w
    joined is same =
        let version : v.version ≡ setting.state.version = same ∙ sym (ap (λ (s : State). s.version) is) in
        λ i. record setting { state = w; end = (ap (λ (k : Version). end_behind k (end_behind setting.state.version setting.end es) fs) version ∙ sym (end_behind-append setting.state.version es fs setting.end)) i }
