-- What payloads make of a state that are read one after the other, as those of a log: the events that happen, and what stops
-- them.
use Rattle.std.specs.Prelude.{◌≡◌, ℕ, ◌+◌, ◌≤◌, IsTrue, if◌then◌else◌, List, [], ◌∷◌, ◌++◌, None, Some, Result, Ok, Err}
use Rattle.std.specs.declared.option.Option.{Option}
use Rattle.hac_model.specs.Payload.Payloads.{spelled}
use Rattle.hac_model.specs.Tree.Costs.{cost, weight}
use Rattle.hac_model.specs.Tree.Events.{accepted, apply, apply_all}
use Rattle.hac_model.specs.Tree.Kinds.{is_prohibited}
use Rattle.hac_model.specs.Tree.Valid.{IsValid}
use Rattle.hac_model.specs.declared.events.Event.{Event}
use Rattle.hac_model.specs.declared.events.Event.TheVariants.{Mark}
use Rattle.hac_model.specs.declared.states.State.{State}

-- why a payload makes no event happen: it spells none, from this byte on; or the state doesn't accept the one that it spells
pub data Fault : Type 0 where
  Misspelled : ℕ → Fault
  Unaccepted : Event → Fault

abbrev pub event_spelled : State → Result Event ℕ → Result Event Fault
event_spelled s (Err offset) = Err (Misspelled offset)
event_spelled s (Ok event) = if accepted s event then Ok event else Err (Unaccepted event)

-- the event that a payload makes happen. It is read in the version of the state, so one of another version is wrong at its
-- first byte.
abbrev pub event_by : State → List ℕ → Result Event Fault
event_by s payload = event_spelled s (spelled s.version payload)

-- the events that happen, one after the other, and what stops the first payload that makes none happen
pub record History : Type 0 where
  pub events : List Event
  pub fault : Option Fault

abbrev pub history_with : Result Event Fault → (Event → History) → History
history_with (Err fault) next = record { events = []; fault = Some fault }
history_with (Ok event) next = record { events = event ∷ (next event).events; fault = (next event).fault }

unfoldable pub history : State → List (List ℕ) → History
history s [] = record { events = []; fault = None }
history s (payload ∷ payloads) = history_with (event_by s payload) (λ event. history (apply s event) payloads)

-- the state to which the events of payloads lead
abbrev pub state_behind : State → List (List ℕ) → State
state_behind s payloads = apply_all s (history s payloads).events

-- Of events that are read again only one that prohibits an item has anything judged: whether the directory finds the item,
-- by each query once at most. All links are found behind the last event.
abbrev pub replay_cost : State → Event → ℕ
replay_cost s (Mark mark) = if is_prohibited mark.kind then weight s else 0
replay_cost s other = 0

-- the same of several, one behind the other
abbrev pub replay_costs : State → List Event → ℕ
replay_costs s [] = 0
replay_costs s (event ∷ events) = replay_cost s event + replay_costs (apply s event) events

-- one that isn't accepted has been asked for, too
abbrev pub fault_cost : State → Fault → ℕ
fault_cost s (Misspelled offset) = 0
fault_cost s (Unaccepted event) = replay_cost s event

-- ---- laws

-- replaying an event that can happen costs no more than it may have cost when it was stored
abbrev pub ReplayingIsNoDearer : Type 0
ReplayingIsNoDearer = (s : State) (event : Event) → IsValid s → IsTrue (accepted s event) → replay_cost s event ≤ cost s event

-- what happens behind payloads of which all happen
abbrev pub HistoriesGoOn : Type 0
HistoriesGoOn = (s : State) (first more : List (List ℕ)) → (history s first).fault ≡ None
    → history s (first ++ more)
    ≡ record { events = (history s first).events ++ (history (state_behind s first) more).events; fault = (history (state_behind s first) more).fault }
