-- Facts about the bytes of a disk that may tell nothing.
use Rattle.std.proofs.Common.{◌≡◌, List, ℕ, None, Some, IfSome, refl, subst}
use Rattle.std.specs.declared.option.Option.{Option}
use Rattle.hac_disk.specs.Contents.{Written}
use Rattle.hac_disk.specs.Images.{IsSettled, Only, overlaid}
use Rattle.hac_disk.specs.Seen.{DiskSeen}

-- a fact that follows from each file that the disk may tell
pub if_known : (seen : Option (List ℕ)) (P : Type 0) → ((file : List ℕ) → seen ≡ Some file → P) → IfSome seen (λ _. P)
if_known None P then_p = tt
if_known (Some file) P then_p = then_p file refl

-- what was written to a file whose bytes the disk tells
pub told-written : (seen new : Option (List ℕ)) (file bytes : List ℕ) (at : ℕ) → seen ≡ Some file → Written seen at bytes new → new ≡ Some (overlaid at bytes file)
told-written seen new file bytes at is written = subst (λ s. Written s at bytes new) is written

-- a settled file is the only image
pub told-settled : (disk : DiskSeen) (file : List ℕ) → disk.contents ≡ Some file → IsSettled disk → Only file disk.image
told-settled disk file is settled = subst (λ s. IfSome s (λ f. Only f disk.image)) is settled
