-- What a crash leaves of the store in which a run keeps its tree.
use Rattle.std.specs.Prelude.{◌≡◌, ⊤, ℕ, suc, ◌<◌, ◌≤◌, Bool, true, false, List, length, take, Result, Ok, Err}
use Rattle.hac_model.specs.Tree.Events.{apply_all}
use Rattle.hac_model.specs.Run.Play.{Setting, Turn, all_events, events_before, new_setting, tree_after}
use Rattle.hac_model.specs.declared.events.Event.{Event}
use Rattle.hac_model.specs.declared.states.State.{State}
use Rattle.hac_store.specs.Stores.{IsHeldAs, Seen}
use Rattle.hac_store.specs.declared.fault.StoreFault.{StoreFault}
use Rattle.hac_top.specs.Ends.{store_status}
use Rattle.hac_top.specs.declared.status.Status.{Status}
use Rattle.hac_top.specs.declared.status.Status.TheVariants.{DiskFault, NotStore, Memory, AlreadyStore}
use Rattle.hac_model.specs.Tree.Sessions.{stored}

-- what a run goes on from, given whether a new store is asked for and what the file holds; or the status with which it
-- ends
abbrev pub opening_outcome : Bool → Result Setting ℕ → Result Setting Status
opening_outcome false (Ok setting) = Ok setting
opening_outcome false (Err at) = Err (NotStore at)
opening_outcome true (Ok setting) = Err AlreadyStore
opening_outcome true (Err at) = Ok new_setting

-- the status says what the file holds
abbrev pub IsOfFile : Status → Type 0
IsOfFile (NotStore at) = ⊤
IsOfFile AlreadyStore = ⊤
IsOfFile other = ⊥

-- a store was opened, or the answer says what the file holds instead, unless a call failed
abbrev pub IsOpened : Result Seen Status → Result Setting Status → Type 0
IsOpened (Ok store) wanted = wanted ≡ Ok store.setting
IsOpened (Err status) wanted = IsOfFile status → wanted ≡ Err status

-- the same answer with the fault of a store as a status
abbrev pub opening_result : Result Seen StoreFault → Result Seen Status
opening_result (Ok store) = Ok store
opening_result (Err fault) = Err (store_status fault)

-- a store isn't opened where the file holds something else, or where a call fails
abbrev pub StopsOpening : Status → Type 0
StopsOpening DiskFault = ⊤
StopsOpening Memory = ⊤
StopsOpening status = IsOfFile status

-- the state after some of these events, the first ones in order
pub record IsTreeAfter (s : State) (events : List Event) (now : State) : Type 0 where
  pub count : ℕ
  pub within : count ≤ length events
  pub is : now ≡ apply_all s (take count events)

-- the image is held, and what is stored of its state is such as this
pub record Holds (P : State → Type 0) (image : List ℕ) : Type 0 where
  pub kept : Setting
  pub is : IsHeldAs image kept
  pub state : P (stored kept.state)

-- the same; or the image holds no store, as may be where a new one was asked for
abbrev pub Reopens : Bool → (State → Type 0) → List ℕ → Type 0
Reopens false P image = Holds P image
Reopens true P image = (kept : Setting) → IsHeldAs image kept → P (stored kept.state)

-- `done` turns were answered. The state is the tree after a prefix of their events which holds the events of each
-- answered command, and of those behind them at most the steps that follow the last one by themselves and then those
-- of the command in hand.
pub record IsTreeOfAnswered (s : State) (turns : List Turn) (done : ℕ) (now : State) : Type 0 where
  pub count : ℕ
  pub within : count ≤ length (all_events turns)
  pub is : now ≡ tree_after count s turns
  pub answered : events_before done turns ≤ count
  pub no_further : done < length turns → count ≤ events_before (suc done) turns
