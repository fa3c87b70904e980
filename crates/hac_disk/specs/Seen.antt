-- What is seen of a disk.
use Rattle.std.specs.Prelude.{◌≡◌, ℕ, ◌≤◌, Bool, List, Some}
use Rattle.std.specs.declared.option.Option.{Option}

-- A disk: the bytes that a read gives, if it tells them, what a crash now may leave, the moment, which doesn't fall, what
-- a crash at some moment from that one on might have left, the names that were attached, each with its `make`, if it
-- tells them, and how many faults there were.
pub record DiskSeen : Type 1 where
  pub contents : Option (List ℕ)
  pub image : List ℕ → Type 0
  pub moment : ℕ
  pub image_since : ℕ → List ℕ → Type 0
  pub attached : Option (List (List ℕ × Bool))
  pub faults : ℕ

-- what holds of any disk: what a read gives is an image; each image of this moment is one since an earlier one; and since
-- this moment there is no other
pub record IsLawful (disk : DiskSeen) : Type 0 where
  pub read_is_image : (file : List ℕ) → disk.contents ≡ Some file → disk.image file
  pub counts_now : (t : ℕ) (c : List ℕ) → t ≤ disk.moment → disk.image c → disk.image_since t c
  pub only_now : (c : List ℕ) → disk.image_since disk.moment c → disk.image c
