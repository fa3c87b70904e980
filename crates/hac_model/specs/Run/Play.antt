-- A whole run: each command is answered, and changes the state for those behind it.
use Rattle.std.specs.Prelude.{◌≡◌, ⊤, IsTrue, ℕ, zero, suc, ◌+◌, ◌&&◌, nat_lt, if◌then◌else◌, Bool, true, false, List, [], ◌∷◌, ◌++◌, length, filter, take, Option, None, Some, Result, Ok, Err, is_none, is_some}
use Rattle.std.specs.List.{flat_map, list_any, take_while}
use Rattle.std.specs.Option.{option_map, option_map_or}
use Rattle.hac_model.specs.Run.Answers.{first_cause}
use Rattle.hac_model.specs.Tree.Events.{apply_all, dirty}
use Rattle.hac_model.specs.Tree.Sessions.{is_stored}
use Rattle.hac_model.specs.Script.Lines.{Item}
use Rattle.hac_model.specs.Run.Asks.{asks}
use Rattle.hac_model.specs.Run.Given.{Given, given_behind, next_fault}
use Rattle.hac_model.specs.Run.Refusals.{early_cause, events_of, late_cause, led_to}
use Rattle.hac_model.specs.Spaces.Answering.{answers_of, asked_spaces, first_absent, is_attached}
use Rattle.hac_model.specs.Tree.Mounting.{is_among}
use Rattle.hac_model.specs.Run.Resolving.{resolve}
use Rattle.hac_model.specs.Script.Printed.{reply_text}
use Rattle.hac_model.specs.Script.{script}
use Rattle.hac_model.specs.declared.events.Event.{Event}
use Rattle.hac_model.specs.declared.events.Event.TheVariants.{Step}
use Rattle.hac_model.specs.declared.limits.LimitWord.TheVariants.{Store}
use Rattle.hac_model.specs.declared.replies.Refusal.{Refusal}
use Rattle.hac_model.specs.declared.replies.Refusal.TheVariants.{Limit, NoSpace, SpaceFault}
use Rattle.hac_model.specs.declared.replies.Reply.{Reply}
use Rattle.hac_model.specs.declared.replies.Reply.TheVariants.{Lines, Refused}
use Rattle.hac_model.specs.declared.resolved.Resolved.{Resolved}
use Rattle.hac_model.specs.declared.spaces.Answers.{Answers}
use Rattle.hac_model.specs.declared.states.State.{State}
pub use Rattle.hac_model.specs.Run.Showing.{count_text, data_lines, found_line, kind_lines, line_of_counts, link_lines, counts_line, path_line, query_line, query_lines, text_line, text_lines}
pub use Rattle.hac_model.specs.Run.Given.{Given, nothing_given, given_behind, given_spaces, no_answers, ticking}
pub use Rattle.hac_model.specs.Run.Checkpoints.{checkpointed, is_checkpoint, next_place}
pub use Rattle.hac_model.specs.Run.Settings.{Setting, after_events, end_after, end_behind, have_room, new_setting, stored_setting}

-- what comes of one command: its reply, its events and the index steps behind it, of which each is stored, and what the
-- next command meets
pub record Turn : Type 0 where
  pub reply : Reply
  pub events : List Event
  pub steps : List Event
  pub after : Setting

-- a store with this setting has something to index, and room for the record of a step
abbrev pub can_step : Setting → Bool
can_step setting = nat_lt 0 (dirty setting.state) && have_room setting (Step ∷ [])

-- the steps that follow a command by themselves: at most n, while there is something to index and room
abbrev pub steps_behind : ℕ → Setting → List Event
steps_behind zero setting = []
steps_behind (suc n) setting =
    if can_step setting then Step ∷ steps_behind n (after_events setting (Step ∷ [])) else []

-- the turn with this reply and these stored events, which leave this setting to the steps that follow by themselves
abbrev pub turn_of : Given → Reply → List Event → Setting → Turn
turn_of given reply events setting = record {
  reply = reply;
  events = events;
  steps = steps_behind given.steps setting;
  after = after_events setting (steps_behind given.steps setting);
}

-- a refused command changes nothing
abbrev pub refused_turn : Given → Setting → Refusal → Turn
refused_turn given setting refusal = turn_of given (Refused refusal) [] setting

-- what the spaces that are attached answer to a command
abbrev pub space_answers : Given → State → Resolved → Answers
space_answers given s command = answers_of given.spaces (asks s command)

-- a space that has to be asked isn't attached
abbrev pub absent_cause : Given → State → Resolved → Option Refusal
absent_cause given s command = option_map NoSpace (first_absent given.spaces (asked_spaces (asks s command)))

-- the events of a command that are stored: where a session stands is known to the run alone
abbrev pub stored_events : Answers → State → Resolved → List Event
stored_events answers s command = filter is_stored (events_of answers s command)

-- the setting once the events of a command have happened, of which those are stored that are
abbrev pub happened : Answers → Setting → Resolved → Setting
happened answers setting command = record setting {
  state = led_to answers setting.state command;
  end = end_after setting (stored_events answers setting.state command);
}

-- the setting that a command leaves which isn't refused: its state is in a new area, or its events have happened
abbrev pub carried_out : Answers → Setting → Resolved → Setting
carried_out answers setting command =
    if is_checkpoint command then option_map_or (checkpointed setting) (next_place setting) setting
    else happened answers setting command

-- a command that isn't refused shows its lines, and is carried out
abbrev pub answered_turn : Given → Setting → Resolved → Answers → Turn
answered_turn given setting command answers =
    turn_of given (Lines (data_lines answers setting.state command)) (stored_events answers setting.state command) (carried_out answers setting command)

-- the store has room for what a command writes: for a new area, or for the records of its events
abbrev pub fits_store : Answers → Setting → Resolved → Bool
fits_store answers setting command =
    if is_checkpoint command then is_some (next_place setting) else have_room setting (stored_events answers setting.state command)

-- the store has no room for what a command writes
abbrev pub full_cause : Answers → Setting → Resolved → Option Refusal
full_cause answers setting command = if fits_store answers setting command then None else Some (Limit Store)

-- Why a command is refused: what the state says of it comes first, then a space that isn't attached, then what depends on
-- the answers of spaces, and a full store is the last of all causes.
abbrev pub turn_cause : Given → Setting → Resolved → Answers → Option Refusal
turn_cause given setting command answers = first_cause (
    early_cause setting.state command
    ∷ absent_cause given setting.state command
    ∷ late_cause answers setting.state command
    ∷ full_cause answers setting command
    ∷ [])

-- the turn of a command, given what spaces answer
abbrev pub turn_with : Given → Setting → Resolved → Answers → Turn
turn_with given setting command answers =
    option_map_or (refused_turn given setting) (turn_cause given setting command answers) (answered_turn given setting command answers)

-- the turn of a command whose paths were followed
abbrev pub command_turn : Given → Setting → Result Resolved Refusal → Turn
command_turn given setting (Err refusal) = refused_turn given setting refusal
command_turn given setting (Ok command) = turn_with given setting command (space_answers given setting.state command)

-- the turn of a line that no space fails: it is a command, or refused by its form
abbrev pub line_turn : Given → Setting → Item → Turn
line_turn given setting (Err refusal) = refused_turn given setting refusal
line_turn given setting (Ok line) = command_turn given setting (resolve setting.state line)

-- the turn of a line: it is refused where a space failed as it asked
abbrev pub item_turn : Given → Setting → Item → Turn
item_turn given setting item =
    option_map_or (λ space. refused_turn given setting (SpaceFault space)) (next_fault given) (line_turn given setting item)

-- The spaces that are asked for a command: those of its questions that stand before the first to a space that isn't
-- attached. A command that is refused whatever they answer asks none.
abbrev pub askable : Given → State → Result Resolved Refusal → List (List ℕ)
askable given s (Err refusal) = []
askable given s (Ok command) =
    if is_none (early_cause s command) then take_while (is_attached given.spaces) (asked_spaces (asks s command)) else []

-- the same for a line
abbrev pub askable_by : Given → State → Item → List (List ℕ)
askable_by given s (Err refusal) = []
askable_by given s (Ok line) = askable given s (resolve s line)

-- a space that fails is one that is asked
abbrev pub MayFail : Given → State → Item → Option (List ℕ) → Type 0
MayFail given s item None = ⊤
MayFail given s item (Some space) = IsTrue (is_among (askable_by given s item) space)

-- the turns of lines in order
abbrev pub turns : Given → Setting → List Item → List Turn
turns given setting [] = []
turns given setting (item ∷ items) =
    item_turn given setting item ∷ turns (given_behind 1 given) (item_turn given setting item).after items

-- each space that fails as lines are answered in order is one that is asked then, and behind them none fails
abbrev pub AreAskable : Given → Setting → List Item → Type 0
AreAskable given setting [] = given.faults ≡ []
AreAskable given setting (item ∷ items) =
    MayFail given setting.state item (next_fault given)
    × AreAskable (given_behind 1 given) (item_turn given setting item).after items

-- the turns of a script
abbrev pub play : Given → Setting → List ℕ → List Turn
play given setting bytes = turns given setting (script bytes)

-- what is written of a turn: its reply
abbrev pub turn_text : Turn → List ℕ
turn_text turn = reply_text turn.reply

-- what is written of turns, one behind the other
abbrev pub turns_text : List Turn → List ℕ
turns_text turns = flat_map turn_text turns

-- what is left after turns
abbrev pub left_by : Setting → List Turn → Setting
left_by setting [] = setting
left_by setting (turn ∷ turns) = left_by turn.after turns

-- all events of a turn, those of its command first
abbrev pub events_in : Turn → List Event
events_in turn = turn.events ++ turn.steps

-- all events of turns, one after the other
abbrev pub all_events : List Turn → List Event
all_events turns = flat_map events_in turns

-- the tree after the first k events of turns that began with a state
abbrev pub tree_after : ℕ → State → List Turn → State
tree_after k s turns = apply_all s (take k (all_events turns))

-- how many events come before the i-th reply, counted from 1
abbrev pub events_before : ℕ → List Turn → ℕ
events_before zero turns = 0
events_before (suc i) [] = 0
events_before (suc zero) (turn ∷ turns) = length turn.events
events_before (suc (suc i)) (turn ∷ turns) = length (events_in turn) + events_before (suc i) turns

abbrev pub is_refused : Reply → Bool
is_refused (Lines lines) = false
is_refused (Refused refusal) = true

-- some command was refused
abbrev pub has_refusal : List Turn → Bool
has_refusal turns = list_any (λ turn. is_refused turn.reply) turns
