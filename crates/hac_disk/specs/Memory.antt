-- What a disk in memory is seen as: the file as it was at first, and the calls since.
use Rattle.std.specs.Prelude.{◌≡◌, ◌⊎◌, ℕ, ◌+◌, ◌-◌, ◌<◌, ◌≤◌, Bool, List, [], ◌∷◌, ◌++◌, length, Some, Result, Ok, Err, is_ok, if◌then◌else◌}
use Rattle.hac_outside.specs.Calls.{IsFailingCall, next_number}
use Rattle.hac_outside.specs.declared.fault.Failed.{Failed}
use Rattle.hac_disk.specs.Exchanges as exchange
use Rattle.hac_disk.specs.Images.{overlaid, Torn}
use Rattle.hac_disk.specs.Seen.{DiskSeen}

-- a call that went well and changed something: a write, a sync, a name that was attached
pub data Call : Type 0 where
  Wrote : ℕ → List ℕ → Call
  Synced : Call
  Attached : List ℕ → Bool → Call

-- a disk: the file at first, the calls since with the newest first, where the gap of zeros begins and how long it is,
-- the room left, the last call that there is room for, the calls that are to fail, the calls and the faults so far
pub record DiskState : Type 0 where
  pub first : List ℕ
  pub done : List Call
  pub gap_at : ℕ
  pub gap : ℕ
  pub room : ℕ
  pub last_call : ℕ
  pub failing : List ℕ
  pub calls : ℕ
  pub faults : ℕ

-- the file after these calls
abbrev pub file_after : List ℕ → List Call → List ℕ
file_after first [] = first
file_after first (Wrote at bytes ∷ older) = overlaid at bytes (file_after first older)
file_after first (Synced ∷ older) = file_after first older
file_after first (Attached name make ∷ older) = file_after first older

-- a crash after these calls may leave this
abbrev pub Image : List ℕ → List Call → List ℕ → Type 0
Image first [] c = c ≡ first
Image first (Wrote at bytes ∷ older) c = (c ≡ overlaid at bytes (file_after first older)) ⊎ ((d : List ℕ) × Image first older d × Torn at (length bytes) d c)
Image first (Synced ∷ older) c = c ≡ file_after first older
Image first (Attached name make ∷ older) c = Image first older c

-- a crash after the first t of these calls, or after one of those behind them, may leave this
abbrev pub ImageSince : List ℕ → List Call → ℕ → List ℕ → Type 0
ImageSince first [] t c = Image first [] c
ImageSince first (call ∷ older) t c = Image first (call ∷ older) c ⊎ ((t ≤ length older) × ImageSince first older t c)

-- the names that were attached, the oldest first
abbrev pub attached_by : List Call → List (List ℕ × Bool)
attached_by [] = []
attached_by (Attached name make ∷ older) = attached_by older ++ (name, make) ∷ []
attached_by (Wrote at bytes ∷ older) = attached_by older
attached_by (Synced ∷ older) = attached_by older

-- what is seen of it: the moment is how many calls there were
abbrev pub seen_of : DiskState → DiskSeen
seen_of disk = record {
  contents = Some (file_after disk.first disk.done);
  image = Image disk.first disk.done;
  moment = length disk.done;
  image_since = ImageSince disk.first disk.done;
  attached = Some (attached_by disk.done);
  faults = disk.faults;
}

-- the disk's next call fails, whatever it is asked
abbrev pub IsFailing : DiskState → Type 0
IsFailing disk = IsFailingCall disk.last_call disk.failing disk.calls

-- a write of n bytes at this place meets the gap
abbrev pub TouchesGap : DiskState → ℕ → ℕ → Type 0
TouchesGap disk at n = (disk.gap_at < at + n) × (at < disk.gap_at + disk.gap)

-- the calls with this one, where it went well
abbrev pub with_call : {E : Type 0} → Result Unit E → Call → List Call → List Call
with_call (Ok _) call older = call ∷ older
with_call (Err _) call older = older

-- a call has been counted, and its fault if it failed; the plan of the disk stays
pub record IsNextCall {T E : Type 0} (old new : DiskState) (result : Result T E) : Type 0 where
  pub first : new.first ≡ old.first
  pub gap_at : new.gap_at ≡ old.gap_at
  pub gap : new.gap ≡ old.gap
  pub last_call : new.last_call ≡ old.last_call
  pub failing : new.failing ≡ old.failing
  pub calls : new.calls ≡ next_number old.calls
  pub faults : new.faults ≡ (if is_ok result then old.faults else next_number old.faults)

-- this much room is left, where the call went well
abbrev pub room_behind : {E : Type 0} → Result Unit E → ℕ → ℕ → ℕ
room_behind result size room = if is_ok result then room - size else room

-- one call was made: those that went well and changed something are now these, there is so much room, and the call is counted
pub record Made {T : Type 0} (old new : DiskState) (result : Result T Failed) (calls : List Call) (left : ℕ) : Type 0 where
  pub done : new.done ≡ calls
  pub room : new.room ≡ left
  pub plan : IsNextCall old new result

-- what one call does to a disk in memory
abbrev pub memory_does : exchange.Exchange → DiskState → DiskState → Type 0
memory_does (exchange.Attach name make result) old new = Made old new result (with_call result (Attached name make) old.done) (room_behind result (length name) old.room)
memory_does (exchange.Len result) old new = Made old new result old.done old.room
memory_does (exchange.Read at before after result) old new = Made old new result old.done old.room
memory_does (exchange.Write at bytes result) old new = Made old new result (with_call result (Wrote at bytes) old.done) (room_behind result (length bytes) old.room)
memory_does (exchange.Sync result) old new = Made old new result (with_call result Synced old.done) old.room
