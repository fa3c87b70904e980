-- What a call that writes in one place of a file may leave.
use Rattle.std.specs.Prelude.{◌≡◌, ℕ, List, Some}
use Rattle.hac_disk.specs.Images.{Follows, LeavesOnly, Only, Torn, TornFrom}
use Rattle.hac_disk.specs.Contents.{WrittenInPart}
use Rattle.hac_disk.specs.Seen.{DiskSeen}

-- at most the n bytes from this place on were changed: outside them a read gives what it gave before, and so does a
-- crash at any moment since
pub record WritesWithin (at n : ℕ) (old new : DiskSeen) : Type 0 where
  pub in_part : WrittenInPart old.contents at n new.contents
  pub images : Follows (Torn at n) old.image new.image
  pub any_moment : LeavesOnly old new (TornFrom at n old.image)

-- the disk tells its bytes, nothing is pending, and the file has P
pub record IsSettledWith (P : List ℕ → Type 0) (disk : DiskSeen) : Type 0 where
  pub file : List ℕ
  pub is : disk.contents ≡ Some file
  pub has : P file
  pub only : Only file disk.image
