-- What becomes of a store and of its disk where events are stored.
use Rattle.std.specs.Prelude.{◌≡◌, ℕ, if◌then◌else◌, true, false, List, Result, Ok, Err, OnOk, map}
use Rattle.hac_disk.specs.Images.{IsSettled, LeavesOnly}
use Rattle.hac_disk.specs.Contents.{Written}
use Rattle.hac_disk.specs.Seen.{DiskSeen}
use Rattle.hac_outside.specs.Causes.{ReportsFault}
use Rattle.hac_journal.specs.Records.{log_of}
use Rattle.hac_model.specs.Payload.Payloads.{event_text}
use Rattle.hac_model.specs.Run.Play.{Setting, have_room}
use Rattle.hac_model.specs.Tree.Costs.{costs}
use Rattle.hac_model.specs.declared.events.Event.{Event}
use Rattle.hac_store.specs.Faults.{is_disk_fault}
use Rattle.hac_store.specs.Stores.{Bears, HeldBetween, Seen, Stands, store_after}
use Rattle.hac_store.specs.declared.fault.StoreFault.{StoreFault}
use Rattle.hac_store.specs.declared.fault.StoreFault.TheVariants.{Disk, NotStore, AlreadyStore, Full, Memory}

-- how many questions for terms storing events may take; where the store has no room for them, none
abbrev pub storing_cost : Setting → List Event → ℕ
storing_cost setting events = if have_room setting events then costs setting.state events else 0

-- all events happened: their records were written behind the log, and last
pub record AllStored (old new : DiskSeen) (before after : Seen) (events : List Event) : Type 0 where
  pub room : have_room before.setting events ≡ true
  pub store : after ≡ store_after before events
  pub written : Written old.contents before.setting.end (log_of (map (event_text before.setting.state.version) events)) new.contents
  pub settled : IsSettled new
  pub place : Bears new after

-- After Ok all events happened. After `Full` there was no room for them; after it and after `Memory` nothing was
-- touched. After `Disk` the store is broken. No other answer is given.
abbrev pub StoringEnds : {D : Type 0} (seen : D → DiskSeen) (old new : D) (before after : Seen) (events : List Event) → Result Unit StoreFault → Type 0
StoringEnds seen old new before after events (Ok _) = AllStored (seen old) (seen new) before after events
StoringEnds seen old new before after events (Err Full) = (have_room before.setting events ≡ false) × ((after ≡ before) × (new ≡ old))
StoringEnds seen old new before after events (Err Memory) = (after ≡ before) × (new ≡ old)
StoringEnds seen old new before after events (Err Disk) = (have_room before.setting events ≡ true) × (after ≡ record before { broken = true })
StoringEnds seen old new before after events (Err (NotStore at)) = ⊥
StoringEnds seen old new before after events (Err AlreadyStore) = ⊥

-- What storing events does. If the disk stood for the store, it does again after Ok, and a crash at each moment leaves
-- the store from before, or the one behind all events.
pub record StoresEvents {D : Type 0} (seen : D → DiskSeen) (old new : D) (before after : Seen)
    (events : List Event) (result : Result Unit StoreFault) : Type 0 where
  pub ends : StoringEnds seen old new before after events result
  pub stands : Stands (seen old) before.setting → OnOk result (Stands (seen new) after.setting)
  pub moments : Stands (seen old) before.setting → LeavesOnly (seen old) (seen new) (HeldBetween before.setting events)
  pub names : (seen new).attached ≡ (seen old).attached
  pub reported : ReportsFault (is_disk_fault result) (seen old).faults (seen new).faults
