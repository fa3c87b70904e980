-- What becomes of a disk on which a store is read.
use Rattle.std.specs.Prelude.{◌≡◌, ◌≤◌, ◌+◌, ℕ, Result, Err, IfOk, IfSome}
use Rattle.hac_disk.specs.Images.{IsQuiet}
use Rattle.hac_disk.specs.Seen.{DiskSeen}
use Rattle.hac_outside.specs.Causes.{ReportsFault}
use Rattle.hac_store.specs.Faults.{is_disk_fault}
use Rattle.hac_store.specs.Held.{held}
use Rattle.hac_store.specs.Loading.{loading}
use Rattle.hac_store.specs.Stores.{Bears, Opens, Seen}
use Rattle.hac_store.specs.declared.fault.StoreFault.{StoreFault}
use Rattle.hac_store.specs.declared.fault.StoreFault.TheVariants.{AlreadyStore, Full}

-- What reading a store does: it answers what the file holds, writes nothing, and asks no more questions than loading may
-- take.
pub record Loads (old new : DiskSeen) (asked_before asked_after : ℕ) (result : Result Seen StoreFault) : Type 0 where
  pub state : IfSome old.contents (λ file. Opens result (held file))
  pub place : IfOk result (Bears new)
  pub quiet : IsQuiet old new
  pub kind : (result ≡ Err AlreadyStore → ⊥) × (result ≡ Err Full → ⊥)
  pub names : new.attached ≡ old.attached
  pub reported : ReportsFault (is_disk_fault result) old.faults new.faults
  pub asked : IfSome old.contents (λ file. asked_after ≤ asked_before + loading file)
