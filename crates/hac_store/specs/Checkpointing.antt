-- What becomes of a store and of its disk where its state is written as a new area.
use Rattle.std.specs.Prelude.{◌≡◌, ℕ, true, List, None, Some, Result, Ok, Err, OnOk}
use Rattle.hac_checkpoint.specs.Flips.{other_slot}
use Rattle.hac_disk.specs.Images.{IsSettled, LeavesOnly}
use Rattle.hac_disk.specs.Seen.{DiskSeen}
use Rattle.hac_outside.specs.Causes.{ReportsFault}
use Rattle.hac_model.specs.Run.Checkpoints.{checkpointed, next_place}
use Rattle.hac_model.specs.Run.Play.{Setting}
use Rattle.hac_model.specs.Tree.Sessions.{stored}
use Rattle.hac_model.specs.declared.states.State.{State}
use Rattle.hac_store.specs.Faults.{is_disk_fault}
use Rattle.hac_store.specs.Stores.{Bears, IsHeldAs, Seen, Stands}
use Rattle.hac_store.specs.declared.fault.StoreFault.{StoreFault}
use Rattle.hac_store.specs.declared.fault.StoreFault.TheVariants.{Disk, NotStore, AlreadyStore, Full, Memory}

-- the store once its live area is the one at this place, to which the root of the other slot leads
abbrev pub moved_to : Seen → ℕ → Seen
moved_to store at = record { setting = checkpointed store.setting at; slot = other_slot store.slot; broken = store.broken }

-- a file holds what is stored of this state, in whatever version
abbrev pub HoldsState : State → List ℕ → Type 0
HoldsState s c = (setting : Setting) × IsHeldAs c setting × (stored setting.state ≡ stored s)

-- the new area is the live one, and last
pub record IsCheckpointed (disk : DiskSeen) (before after : Seen) (at : ℕ) : Type 0 where
  pub free : next_place before.setting ≡ Some at
  pub store : after ≡ moved_to before at
  pub settled : IsSettled disk
  pub place : Bears disk after

-- After Ok the new area is live. After `Full` there was no place for it; after that and after `Memory` nothing was
-- touched. After `Disk` the store is broken. No other answer is given.
abbrev pub CheckpointEnds : {D : Type 0} (seen : D → DiskSeen) (old new : D) (before after : Seen) → Result Unit StoreFault → Type 0
CheckpointEnds seen old new before after (Ok _) = (at : ℕ) × IsCheckpointed (seen new) before after at
CheckpointEnds seen old new before after (Err Full) =
    (next_place before.setting ≡ None) × ((after ≡ before) × (new ≡ old))
CheckpointEnds seen old new before after (Err Memory) = (after ≡ before) × (new ≡ old)
CheckpointEnds seen old new before after (Err Disk) =
    (next_place before.setting ≡ None → ⊥) × (after ≡ record before { broken = true })
CheckpointEnds seen old new before after (Err (NotStore at)) = ⊥
CheckpointEnds seen old new before after (Err AlreadyStore) = ⊥

-- What a checkpoint does. If the disk stood for the store, it does again after Ok, and a crash at each moment leaves a
-- store with what is stored of its state.
pub record Checkpoints {D : Type 0} (seen : D → DiskSeen) (old new : D) (before after : Seen)
    (result : Result Unit StoreFault) : Type 0 where
  pub ends : CheckpointEnds seen old new before after result
  pub stands : Stands (seen old) before.setting → OnOk result (Stands (seen new) after.setting)
  pub moments : Stands (seen old) before.setting → LeavesOnly (seen old) (seen new) (HoldsState before.setting.state)
  pub names : (seen new).attached ≡ (seen old).attached
  pub reported : ReportsFault (is_disk_fault result) (seen old).faults (seen new).faults
