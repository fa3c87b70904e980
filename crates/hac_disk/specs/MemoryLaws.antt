-- The laws of images, for the calls of a disk in memory.
use Rattle.std.specs.Prelude.{◌≡◌, ℕ, ◌≤◌, List, [], ◌∷◌, length, Some, refl}
use Rattle.std.proofs.Common.{inl, inr, subst, arith}
use Rattle.hac_disk.specs.Memory.{Call, Wrote, Synced, Attached, DiskState, file_after, Image, ImageSince, seen_of}
use Rattle.hac_disk.specs.Seen.{IsLawful}

-- what a read gives is an image
pub seen_is_image : (first : List ℕ) (done : List Call) → Image first done (file_after first done)
seen_is_image first [] = refl
seen_is_image first (Wrote at bytes ∷ older) = inl refl
seen_is_image first (Synced ∷ older) = refl
seen_is_image first (Attached name make ∷ older) = seen_is_image first older

bytes_are_image : (first : List ℕ) (done : List Call) (file : List ℕ) → Some (file_after first done) ≡ Some file → Image first done file
bytes_are_image first done file same =
    let is : file_after first done ≡ file = cc in subst (Image first done) is (seen_is_image first done)

-- this moment is one of those since an earlier one
pub image_counts_now : (first : List ℕ) (done : List Call) (t : ℕ) (c : List ℕ) → t ≤ length done → Image first done c → ImageSince first done t c
image_counts_now first [] t c le now = now
image_counts_now first (call ∷ older) t c le now = inl now

-- since this moment there is no other
image_only_now : (first : List ℕ) (done : List Call) (c : List ℕ) → ImageSince first done (length done) c → Image first done c
image_only_now first [] c now = now
image_only_now first (call ∷ older) c (inl now) = now
image_only_now first (call ∷ older) c (inr (le, past)) = absurd (omega arith)

pub memory_lawful : (disk : DiskState) → IsLawful (seen_of disk)
memory_lawful disk = record {
  read_is_image = bytes_are_image disk.first disk.done;
  counts_now = image_counts_now disk.first disk.done;
  only_now = image_only_now disk.first disk.done;
}
