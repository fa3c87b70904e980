-- How a disk in memory keeps its file and its calls.
use Rattle.std.specs.Prelude.{◌≡◌, ℕ, ◌+◌, ◌-◌, ◌^◌, ◌<◌, ◌≤◌, List, [], ◌∷◌, length, take, drop, reverse, vec_len, vec_capacity}
use Rattle.hac_disk.specs.Memory.{Call, Wrote, Synced, Attached, file_after, DiskState}
use Rattle.hac_disk.specs.Parts.{contents}
use Rattle.hac_disk.specs.declared.memory.Step.{Step}
use Rattle.hac_disk.specs.declared.memory.Step.TheVariants.{Write, Sync, Attach}
use Rattle.hac_disk.specs.declared.memory.MemoryDisk.TheInside.{Inside}

-- all but the last n bytes, and the last n
abbrev pub front : ℕ → List ℕ → List ℕ
front n kept = take (length kept - n) kept

abbrev pub back : ℕ → List ℕ → List ℕ
back n kept = drop (length kept - n) kept

-- the calls of these steps, the newest first, whose bytes follow one another
abbrev pub calls_of : List Step → List ℕ → List Call
calls_of [] kept = []
calls_of (Write at n ∷ older) kept = Wrote at (back n kept) ∷ calls_of older (front n kept)
calls_of (Sync ∷ older) kept = Synced ∷ calls_of older kept
calls_of (Attach n make ∷ older) kept = Attached (back n kept) make ∷ calls_of older (front n kept)

abbrev pub disk_of : Inside → DiskState
disk_of disk = record {
  first = contents disk.first_head.items disk.gap disk.first_tail.items;
  done = calls_of (reverse disk.log.items) disk.kept.items;
  gap_at = vec_len disk.head;
  gap = disk.gap;
  room = disk.room;
  last_call = disk.last_call;
  failing = disk.calls.failing.items;
  calls = disk.calls.made;
  faults = disk.calls.faults;
}

-- the file is what the calls made of it, and there is room for what may still come
pub record IsDisk (disk : Inside) : Type 0 where
  pub tells : contents disk.head.items disk.gap disk.tail.items ≡ file_after (contents disk.first_head.items disk.gap disk.first_tail.items) (calls_of (reverse disk.log.items) disk.kept.items)
  pub tail_room : vec_len disk.tail + disk.room ≤ vec_capacity disk.tail
  pub kept_room : vec_len disk.kept + disk.room ≤ vec_capacity disk.kept
  pub log_made : vec_len disk.log ≤ disk.calls.made
  pub log_room : disk.last_call ≤ vec_capacity disk.log
  pub size : vec_len disk.head + disk.gap + vec_len disk.tail + disk.room < 2 ^ 64
