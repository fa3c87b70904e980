-- What is on a disk while a new store is made. Of a disk that tells nothing, nothing is said.
use Rattle.std.specs.Prelude.{◌≡◌, ◌⊎◌, ℕ, List, drop, take, None, Some, ⊤, Result, Ok, Err, IfOk, IfSome, IsErr, OnOk}
use Rattle.std.specs.declared.option.Option.{Option}
use Rattle.hac_disk.specs.Exchanges.{Exchange}
use Rattle.hac_disk.specs.Exchanges as exchange
use Rattle.hac_disk.specs.Images.{IsQuiet, IsSettled, LeavesOnly}
use Rattle.hac_disk.specs.Seen.{DiskSeen}
use Rattle.hac_model.specs.Run.Play.{new_setting}
use Rattle.hac_outside.specs.Causes.{HasCause, ReportsFault}
use Rattle.hac_outside.specs.declared.fault.Failed.{Failed}
use Rattle.hac_store.specs.Faults.{is_disk_fault}
use Rattle.hac_store.specs.Held.{held}
use Rattle.hac_store.specs.Stores.{Bears, IsNewOrNone, Seen, Stands, first_store}
use Rattle.hac_store.specs.declared.fault.StoreFault.{StoreFault}
use Rattle.hac_store.specs.declared.fault.StoreFault.TheVariants.{Disk, NotStore, AlreadyStore, Full, Memory}
use Rattle.hac_store.specs.declared.creating.TheConstants.{NEW}

-- why no store is made, given why none was read
abbrev pub none_in : Option StoreFault → Result Unit StoreFault
none_in None = Err AlreadyStore
none_in (Some (NotStore at)) = Ok tt
none_in (Some other) = Err other

-- the file holds no store
abbrev pub HoldsNone : Option (List ℕ) → Type 0
HoldsNone None = ⊤
HoldsNone (Some file) = IsErr (held file)

-- a disk whose bytes were known goes on so, and has this
abbrev pub Becomes : Option (List ℕ) → (List ℕ → Type 0) → Option (List ℕ) → Type 0
Becomes None P new = new ≡ None
Becomes (Some old) P None = ⊥
Becomes (Some old) P (Some new) = P new

-- behind its first byte it goes on as a new store
abbrev pub IsReady : List ℕ → Type 0
IsReady file = take 64 (drop 1 file) ≡ drop 1 NEW

-- Over a file that holds no store, at each moment a crash leaves the root alone, or no store; after Ok the file has P, and
-- nothing is pending.
pub record WritesNew {T E : Type 0} (P : List ℕ → Type 0) (old new : DiskSeen) (result : Result T E) : Type 0 where
  pub becomes : OnOk result (Becomes old.contents P new.contents)
  pub settled : OnOk result (IsSettled new)
  pub any_moment : IfSome old.contents (λ _. LeavesOnly old new IsNewOrNone)
  pub attached : new.attached ≡ old.attached
  pub cause : HasCause old.faults new.faults result

-- The first call synced the disk, and since then a crash leaves only what has P.
pub record SyncedFirst {D : Type 0} (seen : D → DiskSeen) (does : Exchange → D → D → Type 0) (P : List ℕ → Type 0) (old new : D) : Type 0 where
  pub mid : D
  pub synced : does (exchange.Sync (Ok tt)) old mid
  pub since : LeavesOnly (seen mid) (seen new) P

-- so it is, or that call failed and was the only one
abbrev pub SyncsFirst : {D T : Type 0} → (D → DiskSeen) → (Exchange → D → D → Type 0) → (List ℕ → Type 0) → D → D → Result T StoreFault → Type 0
SyncsFirst seen does P old new result =
    SyncedFirst seen does P old new ⊎ ((result ≡ Err Disk) × ((why : Failed) × does (exchange.Sync (Err why)) old new))

-- What making a store does: after Ok the disk holds the root alone and bears the first store, and where memory ran out
-- nothing was written.
pub record Creates (old new : DiskSeen) (result : Result Seen StoreFault) : Type 0 where
  pub store : IfOk result (λ store. store ≡ first_store)
  pub stands : IfSome old.contents (λ _. OnOk result (Stands new new_setting))
  pub place : IfOk result (Bears new)
  pub unwritten : result ≡ Err Memory → IsQuiet old new
  pub kind : ((at : ℕ) → result ≡ Err (NotStore at) → ⊥) × (result ≡ Err Full → ⊥)
  pub names : new.attached ≡ old.attached
  pub reported : ReportsFault (is_disk_fault result) old.faults new.faults
