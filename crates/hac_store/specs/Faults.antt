-- The faults of the crates below, as those of a store.
use Rattle.std.specs.Prelude.{Bool, true, false, Result, Err}
use Rattle.hac_checkpoint.specs.declared.heads.RootFault.{RootFault}
use Rattle.hac_checkpoint.specs.declared.heads.RootFault.TheVariants as root
use Rattle.hac_journal.specs.declared.fault.JournalFault.{JournalFault}
use Rattle.hac_journal.specs.declared.fault.JournalFault.TheVariants as journal
use Rattle.hac_store.specs.declared.fault.StoreFault.{StoreFault}
use Rattle.hac_store.specs.declared.fault.StoreFault.TheVariants.{Disk, NotStore, Full, Memory}

abbrev pub of_root : RootFault → StoreFault
of_root root.Disk = Disk
of_root (root.Bad at) = NotStore at

abbrev pub of_journal : JournalFault → StoreFault
of_journal journal.Disk = Disk
of_journal journal.Full = Full
of_journal journal.Memory = Memory

-- the answer says that a call of the disk failed
abbrev pub is_disk_fault : {T : Type 0} → Result T StoreFault → Bool
is_disk_fault (Err Disk) = true
is_disk_fault other = false
