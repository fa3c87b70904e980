-- A store as it is seen, and what a crash may leave of it.
use Rattle.std.specs.Prelude.{◌≡◌, ◌⊎◌, ◌||◌, ◌==◌, ◌+◌, ◌*◌, nat_lt, ⊤, ℕ, Bool, IsTrue, false, List, [], ◌∷◌, Some, Result, Ok, Err, IfSome, refl}
use Rattle.std.specs.Coded.{Coded, code_by, coded×, coded_bool, coded_ℕ}
use Rattle.hac_checkpoint.specs.Flips.{HasRoot}
use Rattle.hac_checkpoint.specs.contracts.heads.Slot as slot
use Rattle.hac_checkpoint.specs.declared.heads.Root.{Root}
use Rattle.hac_checkpoint.specs.declared.heads.Slot.{Slot}
use Rattle.hac_checkpoint.specs.declared.heads.Slot.TheVariants.{A}
use Rattle.hac_disk.specs.Contents.{HasByteAt}
use Rattle.hac_disk.specs.Seen.{DiskSeen}
use Rattle.hac_model.specs.Run.Play.{Setting, after_events, new_setting, stored_setting}
use Rattle.hac_model.specs.Tree.Events.{apply}
use Rattle.hac_model.specs.Tree.Sessions.{is_stored}
use Rattle.hac_model.specs.Tree.{empty}
use Rattle.hac_model.specs.Versions.{store_limit}
use Rattle.hac_model.specs.declared.events.Event.{Event}
use Rattle.hac_model.specs.contracts.states.State as state
use Rattle.hac_model.specs.declared.states.State.{State}
use Rattle.hac_model.specs.declared.versions.Version.{Version}
use Rattle.hac_store.specs.Held.{held}
use Rattle.hac_store.specs.declared.fault.StoreFault.{StoreFault}
use Rattle.hac_store.specs.declared.fault.StoreFault.TheVariants.{NotStore}

-- a store: what a run goes on from, the slot of the root that counts, and whether a write of it failed
pub record Seen : Type 0 where
  pub setting : Setting
  pub slot : Slot
  pub broken : Bool

abbrev pub seen_code : Coded Seen
seen_code =
    code_by (State × (ℕ × (ℕ × (ℕ × (Slot × Bool)))))
    (coded× state.the_row.coded (coded× coded_ℕ (coded× coded_ℕ (coded× coded_ℕ (coded× slot.the_row.coded coded_bool)))))
    (λ seen. (seen.setting.state, (seen.setting.start, (seen.setting.end, (seen.setting.generation, (seen.slot, seen.broken))))))
    (λ parts. record {
      setting = record { state = parts.0; start = parts.1.0; end = parts.1.1.0; generation = parts.1.1.1.0 };
      slot = parts.1.1.1.1.0;
      broken = parts.1.1.1.1.1;
    })
    (λ _. refl)

-- this many records with payloads of this size, and the closed gate behind them, lie within the limit of a store of a
-- version
abbrev pub fit_behind : Version → ℕ → ℕ → ℕ → Bool
fit_behind version end records payload = records == 0 || nat_lt (end + records * (5 + payload)) (store_limit version)

-- the store after events
abbrev pub store_after : Seen → List Event → Seen
store_after store events = record store { setting = after_events store.setting events }

-- all of these events are such as are stored
abbrev pub AreForStore : List Event → Type 0
AreForStore [] = ⊤
AreForStore (event ∷ events) = IsTrue (is_stored event) × AreForStore events

-- the setting after an event that isn't stored: the log ends where it did
abbrev pub unstored_after : Setting → Event → Setting
unstored_after setting event = record setting { state = apply setting.state event }

-- a store that holds the root alone
abbrev pub first_store : Seen
first_store = record { setting = new_setting; slot = A; broken = false }

-- the root by which a store goes
abbrev pub root_by : Seen → Root
root_by store = record { slot = store.slot; generation = store.setting.generation; start = store.setting.start }

-- the disk bears the store: where it tells its bytes, it has the gate behind the log, and this root counts
abbrev pub Bears : DiskSeen → Seen → Type 0
Bears disk store = HasByteAt disk.contents store.setting.end × IfSome disk.contents (HasRoot (root_by store))

-- what a file holds has this setting
abbrev pub IsHeldAs : List ℕ → Setting → Type 0
IsHeldAs image setting = held image ≡ Ok setting

-- the disk tells its bytes, and whatever a crash leaves of them holds what is stored of this
pub record Stands (disk : DiskSeen) (setting : Setting) : Type 0 where
  pub file : List ℕ
  pub is : disk.contents ≡ Some file
  pub each : (c : List ℕ) → disk.image c → IsHeldAs c (stored_setting setting)

-- it holds what was stored before events, or what they make of that: all of them happened, or none
abbrev pub HeldBetween : Setting → List Event → List ℕ → Type 0
HeldBetween setting events c =
    IsHeldAs c (stored_setting setting) ⊎ IsHeldAs c (after_events (stored_setting setting) events)

-- if it holds anything, that is the root alone
abbrev pub IsNewOrNone : List ℕ → Type 0
IsNewOrNone c = (setting : Setting) → IsHeldAs c setting → setting.state ≡ empty

-- what a call that opens a store answers, given what the file holds
abbrev pub Opens : Result Seen StoreFault → Result Setting ℕ → Type 0
Opens (Ok store) kept = kept ≡ Ok store.setting
Opens (Err (NotStore at)) kept = kept ≡ Err at
Opens (Err other) kept = ⊤
