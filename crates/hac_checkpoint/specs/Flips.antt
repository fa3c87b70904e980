-- A flip: the slot that doesn't count gets the next root, and then counts.
use Rattle.std.specs.Prelude.{◌≡◌, ℕ, ◌+◌, List, Ok, OnOk, Result}
use Rattle.hac_outside.specs.Causes.{HasCause}
use Rattle.hac_disk.specs.Images.{LeavesOnly}
use Rattle.hac_disk.specs.Seen.{DiskSeen}
use Rattle.hac_checkpoint.specs.Roots.{gate_of, generation, root_of, start}
use Rattle.hac_checkpoint.specs.declared.heads.Root.{Root}
use Rattle.hac_checkpoint.specs.declared.heads.Slot.{Slot}
use Rattle.hac_checkpoint.specs.declared.heads.Slot.TheVariants.{A, B}
use Rattle.hac_checkpoint.specs.Writes.{IsSettledWith, WritesWithin}
use Rattle.hac_journal.specs.Appending.{ClosedAt}

-- the slot beside this one
abbrev pub other_slot : Slot → Slot
other_slot A = B
other_slot B = A

-- the root behind this one, of an area at this place
abbrev pub next_root : Root → ℕ → Root
next_root live at = record { slot = other_slot live.slot; generation = live.generation + 1; start = at }

-- this root counts
abbrev pub HasRoot : Root → List ℕ → Type 0
HasRoot root file = root_of file ≡ Ok root

-- this root counts, and the gate of the other slot isn't open
pub record HasSpareSlot (live : Root) (file : List ℕ) : Type 0 where
  pub counts : HasRoot live file
  pub shut : ClosedAt (gate_of (other_slot live.slot)) file

-- besides, the other slot holds the root behind this one
pub record IsFilled (live : Root) (at : ℕ) (file : List ℕ) : Type 0 where
  pub spare : HasSpareSlot live file
  pub generation_is : generation (other_slot live.slot) file ≡ live.generation + 1
  pub start_is : start (other_slot live.slot) file ≡ at

-- Only the slot that doesn't count was written. Over a settled file with P, a crash at any moment leaves the live root, and
-- after Ok the file has Q and is settled.
pub record WritesSpare {T E : Type 0} (live : Root) (P Q : List ℕ → Type 0) (old new : DiskSeen) (result : Result T E) : Type 0 where
  pub filled : IsSettledWith P old → OnOk result (IsSettledWith Q new)
  pub any_moment : IsSettledWith P old → LeavesOnly old new (HasRoot live)
  pub elsewhere : WritesWithin (gate_of (other_slot live.slot)) 17 old new
  pub attached : new.attached ≡ old.attached
  pub cause : HasCause old.faults new.faults result
