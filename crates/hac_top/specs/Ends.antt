-- The statuses of a run.
use Rattle.std.specs.Prelude.{ℕ, Bool, true, false, ⊤, if◌then◌else◌, Result, Ok, Err}
use Rattle.hac_store.specs.declared.fault.StoreFault.{StoreFault}
use Rattle.hac_store.specs.declared.fault.StoreFault.TheVariants as store
use Rattle.line_reader.specs.declared.reading.LineFault.{LineFault}
use Rattle.line_reader.specs.declared.reading.LineFault.TheVariants as line
use Rattle.hac_top.specs.declared.status.Status.{Status}
use Rattle.hac_top.specs.declared.status.Status.TheVariants.{Done, SomeRefused, Usage, ReadFault, WriteFault, DiskFault, NotStore, Memory, BadSpace, TooLong, AlreadyStore}

abbrev pub status_number : Status → ℕ
status_number Done = 0
status_number SomeRefused = 1
status_number Usage = 2
status_number ReadFault = 3
status_number WriteFault = 4
status_number DiskFault = 5
status_number (NotStore at) = 6
status_number Memory = 7
status_number (BadSpace which line) = 8
status_number TooLong = 9
status_number AlreadyStore = 10

-- the status of a script that was read to its end, given whether some command was refused
abbrev pub finished_status : Bool → Status
finished_status refused = if refused then SomeRefused else Done

-- the status of a run, given whether some command was refused, or why it stopped
abbrev pub end_status : Result Bool Status → Status
end_status (Ok refused) = finished_status refused
end_status (Err status) = status

-- a fault of the reader, as a status
abbrev pub line_status : LineFault → Status
line_status line.Read = ReadFault
line_status line.Memory = Memory
line_status line.TooLong = TooLong

-- a fault of the store, as a status. Where a store is full this is no status: there it has a reply.
abbrev pub store_status : StoreFault → Status
store_status store.Disk = DiskFault
store_status (store.NotStore at) = NotStore at
store_status store.AlreadyStore = AlreadyStore
store_status store.Full = Memory
store_status store.Memory = Memory

-- the script was read to its end
abbrev pub IsFinished : Status → Type 0
IsFinished Done = ⊤
IsFinished SomeRefused = ⊤
IsFinished other = ⊥

-- the run ended between two lines: none was in hand
abbrev pub IsBetween : Status → Type 0
IsBetween Done = ⊤
IsBetween SomeRefused = ⊤
IsBetween ReadFault = ⊤
IsBetween TooLong = ⊤
IsBetween other = ⊥

-- the run ended once its store was open
abbrev pub IsOpenStatus : Status → Type 0
IsOpenStatus Usage = ⊥
IsOpenStatus (NotStore at) = ⊥
IsOpenStatus AlreadyStore = ⊥
IsOpenStatus (BadSpace which line) = ⊥
IsOpenStatus other = ⊤

-- the run came to its store: it isn't one that ends at its words or at a space
abbrev pub IsStoreStatus : Status → Type 0
IsStoreStatus Usage = ⊥
IsStoreStatus (BadSpace which line) = ⊥
IsStoreStatus other = ⊤

-- the run reports a read that failed
abbrev pub is_read_fault : Status → Bool
is_read_fault ReadFault = true
is_read_fault other = false

-- the run reports a write or a flush that failed
abbrev pub is_write_fault : Status → Bool
is_write_fault WriteFault = true
is_write_fault other = false

-- the run reports a call of the disk that failed
abbrev pub is_disk_fault : Status → Bool
is_disk_fault DiskFault = true
is_disk_fault other = false

-- the run reports a space that can't be attached
abbrev pub is_bad_space : Status → Bool
is_bad_space (BadSpace which line) = true
is_bad_space other = false

-- the answer is a status that reports a call of the disk that failed
abbrev pub reports_disk : {T : Type 0} → Result T Status → Bool
reports_disk (Ok value) = false
reports_disk (Err status) = is_disk_fault status

-- the answer is a fault of the store that comes of a call of the disk that failed
abbrev pub met_disk_fault : {T : Type 0} → Result T StoreFault → Bool
met_disk_fault (Ok value) = false
met_disk_fault (Err fault) = is_disk_fault (store_status fault)
