-- Scripts lead from valid states to valid states, by events one after the other.
use Rattle.std.proofs.Common.{◌≡◌, ◌≤◌, ℕ, zero, suc, ◌+◌, Bool, true, false, cond, List, [], ◌∷◌, ◌++◌, length, refl, ap, subst, sym, ◌∙◌, arith}
use Rattle.std.specs.Prelude.{if◌then◌else◌, nat_lt, filter, Option, Some, None, Result, Ok, Err, IsTrue, IfNone}
use Rattle.std.specs.List.{AllByRecursion}
use Rattle.std.specs.Option.{option_map, option_map_or, unwrap_or}
use Rattle.std.proofs.lemmas.Bool.{and_parts}
use Rattle.hac_model.specs.Tree.Events.{accepted, apply, apply_all, changed_at, dirty, edited, indexed, next_dirty}
use Rattle.hac_model.specs.Tree.Sessions.{is_stored, stored}
use Rattle.hac_model.specs.Script.Lines.{Item, is_quiet, is_spelled_line, item_of, items_of}
use Rattle.hac_model.specs.Payload.Payloads.{event_text}
use Rattle.hac_model.specs.Run.Play.{Given, Setting, Turn, absent_cause, after_events, all_events, answered_turn, can_step, carried_out, checkpointed, command_turn, data_lines, end_behind, events_in, full_cause, given_behind, happened, have_room, is_checkpoint, item_turn, left_by, line_turn, next_place, no_answers, play, refused_turn, space_answers, steps_behind, stored_events, turn_cause, turn_of, turns}
use Rattle.hac_model.specs.Run.Given.{next_fault}
use Rattle.hac_model.specs.Run.Answers.{first_cause}
use Rattle.hac_model.specs.Run.Asks.{asks}
use Rattle.hac_model.specs.Run.Refusals.{cause, early_cause, events_of, late_cause, led_to}
use Rattle.hac_model.specs.Spaces.Answering.{AreAnswersTo, AreRisingNames, Attached, answers_of, documents_in, names_with}
use Rattle.hac_model.specs.Spaces.Catalogue.{names}
use Rattle.hac_model.specs.declared.spaces.Answers.{Answers}
use Rattle.hac_model.specs.declared.spaces.Asks.{Asks}
use Rattle.std.specs.List.Sorted.{IsStrictlySortedBy}
use Rattle.std.specs.Map.{lookup}
use Rattle.std.specs.Str.{bytes_eq}
use Rattle.std.proofs.lemmas.List.{length-map}
use Rattle.hac_model.specs.Run.Resolving.{resolve}
use Rattle.hac_model.specs.Script.{after_item, after_line, first_items, first_line, items_of_lines, script}
use Rattle.hac_model.specs.Tree.Valid.{IsValid}
use Rattle.hac_model.specs.declared.commands.Line.{Line}
use Rattle.hac_model.specs.declared.events.Event.{Event}
use Rattle.hac_model.specs.declared.replies.Refusal.{Refusal}
use Rattle.hac_model.specs.declared.replies.Refusal.TheVariants.{SpaceFault}
use Rattle.hac_model.specs.declared.replies.Reply.{Reply}
use Rattle.hac_model.specs.declared.replies.Reply.TheVariants.{Lines, Refused}
use Rattle.hac_model.specs.declared.resolved.Resolved.{Resolved}
use Rattle.hac_model.specs.declared.resolved.Resolved.TheVariants.{Checkpoint, Index}
use Rattle.hac_model.specs.declared.events.Event.TheVariants as event
use Rattle.hac_model.specs.declared.states.State.{State}
use Rattle.hac_model.proofs.AcyclicLemmas.{apply-valid}
use Rattle.hac_model.proofs.EventLemmas.{all-valid, commands-happen, no_cause, steps-clean-all, steps-due}
use Rattle.hac_model.proofs.SpellingLemmas.{IsItem, item_of-item}
use Rattle.hac_model.proofs.VersionLemmas.{apply_all-version}
use Rattle.hac_model.specs.declared.versions.Version.{Version}
use Rattle.hac_model.proofs.RaisedLemmas.{raised-valid}

-- what spaces that are in order answer
pub said-answers : (spaces : List Attached) → AllByRecursion (λ space. AreRisingNames (names space.1)) spaces → (asked : Asks) → AreAnswersTo asked (answers_of spaces asked)
unfolding IsStrictlySortedBy
said-answers spaces rise asked = record {
  rising = listed asked.list;
  unlisted = unlisted asked.list;
  found = length-map asked.searches (λ question. names_with (documents_in spaces question.space) question.term);
}
  where
    none : AreRisingNames []
    none = record { names = λ k d low. absurd (omega (arith, low)); rising = tt }

    at : (spaces : List Attached) (name : List ℕ) → AllByRecursion (λ space. AreRisingNames (names space.1)) spaces → AreRisingNames (names (documents_in spaces name))
    at [] name rise = none
    at (space ∷ spaces) name rise = elim (bytes_eq name space.0) as (λ b. AreRisingNames (names (unwrap_or (if b then Some space.1 else lookup (bytes_eq name) spaces) []))) [
      | true ↦ rise.0
      | false ↦ at spaces name rise.1
    ]

    listed : (o : Option (List ℕ)) → AreRisingNames (unwrap_or (option_map (λ space. names (documents_in spaces space)) o) [])
    listed None = none
    listed (Some name) = at spaces name rise

    unlisted : (o : Option (List ℕ)) → IfNone o (unwrap_or (option_map (λ space. names (documents_in spaces space)) o) [] ≡ [])
    unlisted None = refl
    unlisted (Some name) = tt

-- no cause at all is none of the state's
no-cause-of : (given : Given) (setting : Setting) (command : Resolved) (answers : Answers) → turn_cause given setting command answers ≡ None → cause answers setting.state command ≡ None
no-cause-of given setting command answers free =
    let s = setting.state in
    let early = no_cause (early_cause s command) (absent_cause given s command ∷ late_cause answers s command ∷ full_cause answers setting command ∷ []) free in
    let absent = no_cause (absent_cause given s command) (late_cause answers s command ∷ full_cause answers setting command ∷ []) early.1 in
    let late = no_cause (late_cause answers s command) (full_cause answers setting command ∷ []) absent.1 in
    λ i. first_cause (early.0 i ∷ late.0 i ∷ [])

-- a step happens where there is something to index
can-step : (setting : Setting) → IsValid setting.state → can_step setting ≡ true → IsTrue (accepted setting.state event.Step)
can-step setting h can = steps-due setting.state h.layout ∙ (and_parts (nat_lt 0 (dirty setting.state)) (have_room setting (event.Step ∷ [])) can).0

-- the steps that follow by themselves keep the state valid
steps-valid : (n : ℕ) (setting : Setting) → IsValid setting.state → IsValid (apply_all setting.state (steps_behind n setting))
steps-valid zero setting h = h
steps-valid (suc n) setting h =
    let next = after_events setting (event.Step ∷ []) in
    elim (can_step setting) as (λ b. can_step setting ≡ b → IsValid (apply_all setting.state (if b then event.Step ∷ steps_behind n next else []))) [
      | true ↦ (λ can. steps-valid n next (apply-valid setting.state event.Step h (can-step setting h can)))
      | false ↦ (λ _. h)
    ] refl

-- the spaces that are given have their documents in order
abbrev pub AreInOrder : Given → Type 0
AreInOrder given = AllByRecursion (λ space. AreRisingNames (names space.1)) given.spaces

-- a checkpoint makes no event
pub saves-nothing : (answers : Answers) (s : State) (command : Resolved) → is_checkpoint command ≡ true → events_of answers s command ≡ []
saves-nothing answers s Checkpoint saves = refl
saves-nothing answers s other saves = absurd cc

-- a command that is carried out leaves a valid state, where its events lead to one
carried-valid : (answers : Answers) (setting : Setting) (command : Resolved) → IsValid (led_to answers setting.state command) → IsValid (carried_out answers setting command).state
carried-valid answers setting command led =
    elim (is_checkpoint command) as (λ b. is_checkpoint command ≡ b →
    IsValid (if b then option_map_or (checkpointed setting) (next_place setting) setting else happened answers setting command).state) [
      | true ↦ (λ saves. saved (next_place setting) (subst (λ (events : List Event). IsValid (apply_all setting.state events)) (saves-nothing answers setting.state command saves) led))
      | false ↦ (λ _. led)
    ] refl
  where
    saved : (place : Option ℕ) → IsValid setting.state → IsValid (option_map_or (checkpointed setting) place setting).state
    saved None h = h
    saved (Some at) h = raised-valid setting.state h

-- what a command leads to is valid
command-valid : (given : Given) → AreInOrder given → (setting : Setting) (line : Line) (r : Result Resolved Refusal) → IsValid setting.state → IsTrue (is_spelled_line line) → resolve setting.state line ≡ r → IsValid (command_turn given setting r).after.state
command-valid given rise setting line (Err refusal) h spelled leads = steps-valid given.steps setting h
command-valid given rise setting line (Ok command) h spelled leads =
    let answers : Answers = space_answers given setting.state command in
    elim (turn_cause given setting command answers) as (λ o. turn_cause given setting command answers ≡ o → IsValid (option_map_or (refused_turn given setting) o (answered_turn given setting command answers)).after.state) [
      | None ↦ (λ free. steps-valid given.steps (carried_out answers setting command)
          (carried-valid answers setting command (all-valid (events_of answers setting.state command) setting.state h
          (commands-happen setting.state line command answers h spelled leads (said-answers given.spaces rise (asks setting.state command)) (no-cause-of given setting command answers free)))))
      | Some refusal ↦ (λ _. steps-valid given.steps setting h)
    ] refl

line-valid : (given : Given) → AreInOrder given → (setting : Setting) (item : Item) → IsItem item → IsValid setting.state → IsValid (line_turn given setting item).after.state
line-valid given rise setting (Ok line) spelled h = command-valid given rise setting line (resolve setting.state line) h spelled refl
line-valid given rise setting (Err refusal) spelled h = steps-valid given.steps setting h

pub turn-valid : (given : Given) → AreInOrder given → (setting : Setting) (item : Item) → IsItem item → IsValid setting.state → IsValid (item_turn given setting item).after.state
turn-valid given rise setting item spelled h =
    elim (next_fault given) as (λ o. IsValid (option_map_or (λ space. refused_turn given setting (SpaceFault space)) o (line_turn given setting item)).after.state) [
      | None ↦ line-valid given rise setting item spelled h
      | Some space ↦ steps-valid given.steps setting h
    ]

pub turns-valid : (given : Given) → AreInOrder given → (setting : Setting) (items : List Item) → AllByRecursion IsItem items → IsValid setting.state → IsValid (left_by setting (turns given setting items)).state
turns-valid given rise setting [] spelled h = h
turns-valid given rise setting (item ∷ items) spelled h = turns-valid (given_behind 1 given) rise (item_turn given setting item).after items spelled.1 (turn-valid given rise setting item spelled.0 h)

all-append : (xs ys : List Item) → AllByRecursion IsItem xs → AllByRecursion IsItem ys → AllByRecursion IsItem (xs ++ ys)
all-append [] ys p q = q
all-append (x ∷ xs) ys p q = (p.0, all-append xs ys p.1 q)

items_of-items : (line behind : List ℕ) → AllByRecursion IsItem (items_of line behind)
items_of-items line behind = elim (is_quiet line) as (λ b. AllByRecursion IsItem (if b then [] else item_of line behind ∷ [])) [ true ↦ tt | false ↦ (item_of-item line behind, tt) ]

items_of_lines-items : (n : ℕ) (bytes : List ℕ) → AllByRecursion IsItem (items_of_lines n bytes)
items_of_lines-items zero bytes = tt
items_of_lines-items (suc n) bytes = all-append (first_items bytes) (items_of_lines n (after_item bytes)) (items_of-items (first_line bytes) (after_line bytes)) (items_of_lines-items n (after_item bytes))

-- each item of a script has words that it may have
pub script-items : (bytes : List ℕ) → AllByRecursion IsItem (script bytes)
unfolding script
script-items bytes = items_of_lines-items (length bytes) bytes

pub scripts-valid : (given : Given) → AreInOrder given → (setting : Setting) (bytes : List ℕ) → IsValid setting.state → IsValid (left_by setting (play given setting bytes)).state
scripts-valid given rise setting bytes h = turns-valid given rise setting (script bytes) (script-items bytes) h

-- events one after the other

pub apply_all-append : (xs ys : List Event) (s : State) → apply_all s (xs ++ ys) ≡ apply_all (apply_all s xs) ys
apply_all-append [] ys s = refl
apply_all-append (x ∷ xs) ys s = apply_all-append xs ys (apply s x)

-- sessions play no part in what an event does
stored-applied : (s : State) (e : Event) → stored (apply s e) ≡ cond (is_stored e) (apply (stored s) e) (stored s)
stored-applied s event.Step = elim (next_dirty s.entries) as (λ o. stored (option_map_or (λ file. changed_at s file (edited indexed)) o s) ≡ option_map_or (λ file. changed_at (stored s) file (edited indexed)) o (stored s)) [ None ↦ refl | Some file ↦ refl ]
stored-applied s other = refl

-- so what is stored after events is known by those that are stored
pub stored-all : (events : List Event) (s : State) → stored (apply_all s events) ≡ apply_all (stored s) (filter is_stored events)
stored-all [] s = refl
stored-all (e ∷ events) s = stored-all events (apply s e) ∙ ap (λ (t : State). apply_all t (filter is_stored events)) (stored-applied s e) ∙ at (is_stored e)
  where
    at : (b : Bool) → apply_all (cond b (apply (stored s) e) (stored s)) (filter is_stored events) ≡ apply_all (stored s) (cond b (e ∷ filter is_stored events) (filter is_stored events))
    at true = refl
    at false = refl

pub end_behind-append : (version : Version) (xs ys : List Event) (end : ℕ) → end_behind version end (xs ++ ys) ≡ end_behind version (end_behind version end xs) ys
end_behind-append version [] ys end = refl
end_behind-append version (x ∷ xs) ys end = end_behind-append version xs ys (end + 5 + length (event_text version x))

-- A setting goes on by events: they make of what was stored what is stored then, and as long as no new area was begun,
-- its version stays, and the store ends behind their records.
record GoesOn (setting next : Setting) (events : List Event) : Type 0 where
  state : stored next.state ≡ apply_all (stored setting.state) events
  later : setting.generation ≤ next.generation
  version : next.generation ≡ setting.generation → next.state.version ≡ setting.state.version
  end : next.generation ≡ setting.generation → next.end ≡ end_behind setting.state.version setting.end events

-- a turn leaves what its events make of the setting
abbrev Leads : Setting → Turn → Type 0
Leads setting turn = GoesOn setting turn.after (events_in turn)

-- the steps that follow by themselves are stored
pub steps-stored : (n : ℕ) (setting : Setting) → filter is_stored (steps_behind n setting) ≡ steps_behind n setting
steps-stored zero setting = refl
steps-stored (suc n) setting =
    let next = after_events setting (event.Step ∷ []) in
    elim (can_step setting) as (λ b. filter is_stored (if b then event.Step ∷ steps_behind n next else []) ≡ (if b then event.Step ∷ steps_behind n next else [])) [
      | true ↦ ap (λ (events : List Event). event.Step ∷ events) (steps-stored n next)
      | false ↦ refl
    ]

-- a turn leads on where its command does
turn_of-leads : (given : Given) (setting next : Setting) (reply : Reply) (events : List Event) → GoesOn setting next events → Leads setting (turn_of given reply events next)
turn_of-leads given setting next reply events on =
    let steps = steps_behind given.steps next in
    record {
      state =
          stored-all steps next.state ∙ ap (apply_all (stored next.state)) (steps-stored given.steps next) ∙ ap (λ (s : State). apply_all s steps) on.state
          ∙ sym (apply_all-append events steps (stored setting.state));
      later = on.later;
      version = λ same. apply_all-version next.state steps ∙ on.version same;
      end = λ same. (λ i. end_behind (on.version same i) (on.end same i) steps) ∙ sym (end_behind-append setting.state.version events steps setting.end);
    }

refused-leads : (given : Given) (setting : Setting) (refusal : Refusal) → Leads setting (refused_turn given setting refusal)
refused-leads given setting refusal = turn_of-leads given setting setting (Refused refusal) [] (record { state = refl; later = omega arith; version = λ _. refl; end = λ _. refl })

-- so does a command that is carried out
carried-on : (answers : Answers) (setting : Setting) (command : Resolved) → GoesOn setting (carried_out answers setting command) (stored_events answers setting.state command)
carried-on answers setting command =
    elim (is_checkpoint command) as (λ b. is_checkpoint command ≡ b →
    GoesOn setting (if b then option_map_or (checkpointed setting) (next_place setting) setting else happened answers setting command) (stored_events answers setting.state command)) [
      | true ↦ (λ saves.
          subst (λ (events : List Event). GoesOn setting (option_map_or (checkpointed setting) (next_place setting) setting) (filter is_stored events))
          (sym (saves-nothing answers setting.state command saves)) (saved (next_place setting)))
      | false ↦ (λ _. record {
        state = stored-all (events_of answers setting.state command) setting.state;
        later = omega arith;
        version = λ _. apply_all-version setting.state (events_of answers setting.state command);
        end = λ _. refl;
      })
    ] refl
  where
    saved : (place : Option ℕ) → GoesOn setting (option_map_or (checkpointed setting) place setting) []
    saved None = record { state = refl; later = omega arith; version = λ _. refl; end = λ _. refl }
    saved (Some at) = record { state = refl; later = omega arith; version = λ same. absurd (omega (arith, same)); end = λ same. absurd (omega (arith, same)) }

command-leads : (given : Given) (setting : Setting) (r : Result Resolved Refusal) → Leads setting (command_turn given setting r)
command-leads given setting (Err refusal) = refused-leads given setting refusal
command-leads given setting (Ok command) =
    let answers : Answers = space_answers given setting.state command in
    elim (turn_cause given setting command answers) as (λ o. Leads setting (option_map_or (refused_turn given setting) o (answered_turn given setting command answers))) [
      | None ↦ turn_of-leads given setting (carried_out answers setting command) (Lines (data_lines answers setting.state command)) (stored_events answers setting.state command)
          (carried-on answers setting command)
      | Some refusal ↦ refused-leads given setting refusal
    ]

line-leads : (given : Given) (setting : Setting) (item : Item) → Leads setting (line_turn given setting item)
line-leads given setting (Ok line) = command-leads given setting (resolve setting.state line)
line-leads given setting (Err refusal) = refused-leads given setting refusal

turn-leads : (given : Given) (setting : Setting) (item : Item) → Leads setting (item_turn given setting item)
turn-leads given setting item =
    elim (next_fault given) as (λ o. Leads setting (option_map_or (λ space. refused_turn given setting (SpaceFault space)) o (line_turn given setting item))) [
      | None ↦ line-leads given setting item
      | Some space ↦ refused-leads given setting (SpaceFault space)
    ]

pub events-lead : (given : Given) (setting : Setting) (items : List Item) → stored (left_by setting (turns given setting items)).state ≡ apply_all (stored setting.state) (all_events (turns given setting items))
events-lead given setting [] = refl
events-lead given setting (item ∷ items) =
    let turn = item_turn given setting item in
    let rest = turns (given_behind 1 given) turn.after items in
    events-lead (given_behind 1 given) turn.after items
    ∙ ap (λ (s : State). apply_all s (all_events rest)) (turn-leads given setting item).state
    ∙ sym (apply_all-append (events_in turn) (all_events rest) (stored setting.state))

-- no root is written with an older generation
generations-rise : (given : Given) (setting : Setting) (items : List Item) → setting.generation ≤ (left_by setting (turns given setting items)).generation
generations-rise given setting [] = omega arith
generations-rise given setting (item ∷ items) =
    let turn = item_turn given setting item in
    let first = (turn-leads given setting item).later in
    let rest = generations-rise (given_behind 1 given) turn.after items in
    omega (arith, first, rest)

pub events-end : (given : Given) (setting : Setting) (items : List Item) → (left_by setting (turns given setting items)).generation ≡ setting.generation →
    (left_by setting (turns given setting items)).end ≡ end_behind setting.state.version setting.end (all_events (turns given setting items))
events-end given setting [] same = refl
events-end given setting (item ∷ items) same =
    let turn = item_turn given setting item in
    let rest = turns (given_behind 1 given) turn.after items in
    let first = turn-leads given setting item in
    let later = generations-rise (given_behind 1 given) turn.after items in
    let here : turn.after.generation ≡ setting.generation = omega (arith, same, first.later, later) in
    events-end (given_behind 1 given) turn.after items (same ∙ sym here)
    ∙ (λ i. end_behind (first.version here i) (first.end here i) (all_events rest))
    ∙ sym (end_behind-append setting.state.version (events_in turn) (all_events rest) setting.end)

pub index-cleans : (s : State) → IsValid s → dirty (led_to no_answers s Index) ≡ 0
index-cleans s h = steps-clean-all (dirty s) s h refl
