-- What an image of a store holds: the tree to which its live area leads, or the place of the first wrong byte.
use Rattle.std.specs.Prelude.{ℕ, ◌+◌, if◌then◌else◌, List, [], ◌∷◌, None, Some, length, Result, Ok, Err}
use Rattle.std.specs.declared.option.Option.{Option}
use Rattle.event_codec.specs.Kinds.{kind_of}
use Rattle.event_codec.specs.declared.kinds.PayloadKind.{PayloadKind}
use Rattle.event_codec.specs.declared.kinds.PayloadKind.TheVariants as kind
use Rattle.hac_checkpoint.specs.Roots.{placed, root_of}
use Rattle.hac_checkpoint.specs.declared.heads.Root.{Root}
use Rattle.hac_checkpoint.specs.declared.heads.Stop.{Stop}
use Rattle.hac_checkpoint.specs.declared.heads.Stop.TheVariants as stop
use Rattle.hac_journal.specs.Logs.{Log, Record, behind_record, log_at, payloads_of, place_of}
use Rattle.hac_model.specs.Payload.States.{restored, spelled_snapshot}
use Rattle.hac_model.specs.Run.Answers.{◌>>=◌}
use Rattle.hac_model.specs.Run.History.{Fault, History, Misspelled, Unaccepted, event_spelled, history}
use Rattle.hac_model.specs.Run.Play.{Setting}
use Rattle.hac_model.specs.Tree.{empty, root_alone}
use Rattle.hac_model.specs.Tree.Events.{apply, apply_all}
use Rattle.hac_model.specs.Tree.ValidTest.{is_valid}
use Rattle.hac_model.specs.declared.events.Event.{Event}
use Rattle.hac_model.specs.declared.snapshots.Snapshot.{Snapshot}
use Rattle.hac_model.specs.declared.states.State.{State}

-- ---- what a log leads to

-- The place of what is wrong with a payload, given that of its gate: where it breaks the grammar, or its first byte where its
-- event can't happen.
abbrev pub fault_place : ℕ → Fault → ℕ
fault_place at (Misspelled offset) = at + 5 + offset
fault_place at (Unaccepted event) = at + 5

-- what one payload makes of a state, given the place of its gate and what it spells
abbrev pub after_event : State → ℕ → Result Event Fault → Result State Stop
after_event s at (Err fault) = Err (stop.BadAt (fault_place at fault))
after_event s at (Ok event) = Ok (apply s event)

abbrev pub after_payload : State → ℕ → Result Event ℕ → Result State Stop
after_payload s at spelled = after_event s at (event_spelled s spelled)

-- where a log leads: to a state, and to the closed gate at this place
pub record Led : Type 0 where
  pub state : State
  pub end : ℕ

-- A log of which so many events happened ends at its closed gate, if it has one; or with the record behind them, if that one
-- is wrong.
abbrev pub end_by : Option ℕ → Result ℕ Stop
end_by None = Err stop.Short
end_by (Some end) = Ok end

abbrev pub ending : Log → ℕ → Option Fault → Result ℕ Stop
ending log happened (Some fault) = Err (stop.BadAt (fault_place (place_of log.records happened) fault))
ending log happened None = end_by log.end

abbrev pub led_with : State → Result ℕ Stop → Result Led Stop
led_with s (Err why) = Err why
led_with s (Ok end) = Ok (record { state = s; end = end })

abbrev pub led_of : State → Log → History → Result Led Stop
led_of s log story = led_with (apply_all s story.events) (ending log (length story.events) story.fault)

-- where a log leads from a state on
abbrev pub led_by : State → Log → Result Led Stop
led_by s log = led_of s log (history s (payloads_of log.records))

-- the same of the log that a file has from a gate on
unfoldable pub log : State → ℕ → List ℕ → Result Led Stop
log s at file = led_by s (log_at at file)

-- ---- areas

-- a live area: the state with which it begins, and the log of events behind it
pub record LiveArea : Type 0 where
  pub base : State
  pub log : Log

-- the state that a payload holds, given the place of its gate. It is wrong where it breaks the grammar, and at its first
-- byte where no such state can be.
abbrev pub after_snapshot : ℕ → Result Snapshot ℕ → Result State Stop
after_snapshot at (Err offset) = Err (stop.BadAt (at + 5 + offset))
after_snapshot at (Ok snapshot) = if is_valid (restored snapshot) then Ok (restored snapshot) else Err (stop.BadAt (at + 5))

-- an area whose first record is a whole state begins with that, and its log follows; any other begins with the root alone, in
-- the version that the kind of its first record tells, and has all records in its log
abbrev pub begun_with : Log → State → Result LiveArea Stop
begun_with log s = Ok (record { base = s; log = log })

abbrev pub area_by_kind : Record → Log → PayloadKind → Result LiveArea Stop
area_by_kind first behind kind.State = after_snapshot first.at (spelled_snapshot first.payload) >>= begun_with behind
area_by_kind first behind (kind.Event version) = begun_with (behind_record first behind) (root_alone version)

-- where it has no record, it is that of a new store
abbrev pub area_by : Option ℕ → List Record → Result LiveArea Stop
area_by end [] = begun_with (record { records = []; end = end }) empty
area_by end (first ∷ records) = area_by_kind first (record { records = records; end = end }) (kind_of first.payload)

-- the live area that has this log
abbrev pub area_in : Log → Result LiveArea Stop
area_in log = area_by log.end log.records

-- where it leads
abbrev pub led_in : LiveArea → Result Led Stop
led_in live = led_by live.base live.log

-- where an area leads that begins at a gate of a file
unfoldable pub area : ℕ → List ℕ → Result Led Stop
area at file = area_in (log_at at file) >>= led_in

-- the live area of a file is the one to which its root leads
abbrev pub live_area : List ℕ → Result LiveArea Stop
live_area file = root_of file >>= (λ root. area_in (log_at root.start file))

-- ---- stores

-- the store of a root and its area
abbrev pub with_root : Root → Result Led Stop → Result Setting Stop
with_root root (Err stop) = Err stop
with_root root (Ok led) = Ok (record { state = led.state; start = root.start; end = led.end; generation = root.generation })

-- the area of a root is where it leads
abbrev pub from_root : List ℕ → Result Root Stop → Result Setting Stop
from_root file (Err stop) = Err stop
from_root file (Ok root) = with_root root (area root.start file)

-- the store that a file holds, or the place of the first wrong byte
unfoldable pub held : List ℕ → Result Setting ℕ
held file = placed file (from_root file (root_of file))
