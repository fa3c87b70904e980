-- Which answers say that the disk failed.
use Rattle.std.specs.Prelude.{Bool, true, false, Result, Err}
use Rattle.hac_journal.specs.declared.fault.JournalFault.{JournalFault}
use Rattle.hac_journal.specs.declared.fault.JournalFault.TheVariants.{Disk}

-- the answer says that a call of the disk failed
abbrev pub is_disk_fault : {T : Type 0} → Result T JournalFault → Bool
is_disk_fault (Err Disk) = true
is_disk_fault other = false
