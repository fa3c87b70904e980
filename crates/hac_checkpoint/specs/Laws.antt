-- What holds of roots and areas in any image.
use Rattle.std.specs.Prelude.{◌≡◌, ℕ, ◌+◌, ◌^◌, ◌<◌, ◌≤◌, List, length, take, Ok, Some}
use Rattle.hac_checkpoint.specs.Areas.{HaveSame, IsApart, area_of, place_for}
use Rattle.hac_checkpoint.specs.Roots.{root_of}
use Rattle.hac_checkpoint.specs.declared.areas.Area.{Area}
use Rattle.hac_checkpoint.specs.declared.heads.Root.{Root}
use Rattle.hac_disk.specs.Images.{Torn, overlaid}
use Rattle.hac_journal.specs.Appending.{ClosedAt}
use Rattle.hac_journal.specs.Finding.{Whole, found_at}
use Rattle.hac_journal.specs.Logs.{log_at}

-- images that agree in their first 43 bytes have the same root
abbrev pub RootsAgree : Type 0
RootsAgree = (c d : List ℕ) → take 43 c ≡ take 43 d → root_of c ≡ root_of d

-- a root's area begins behind the head of the store
abbrev pub RootsStartBehind : Type 0
RootsStartBehind = (image : List ℕ) (root : Root) → root_of image ≡ Ok root → 64 ≤ root.start

-- a new area lies behind the head and apart from the live one, and leaves no gap behind that
abbrev pub NewAreasLieApart : Type 0
NewAreasLieApart = (limit size at : ℕ) (live : Area) → 64 ≤ live.start → live.start ≤ live.end → place_for limit live size ≡ Some at
    → (64 ≤ at) × (at ≤ live.end + 1) × IsApart at size live

-- a write behind the head, torn or whole, leaves the root
abbrev pub WritesLeaveRoots : Type 0
WritesLeaveRoots = (at n : ℕ) (c d : List ℕ) → 43 ≤ at → Torn at n d c → root_of c ≡ root_of d

-- a write apart from an area, torn or whole, leaves the area
abbrev pub WritesLeaveAreas : Type 0
WritesLeaveAreas = (at n : ℕ) (area : Area) (c d : List ℕ) → IsApart at n area → Torn at n d c → HaveSame area c d

-- what is found in an area is found in each file that has the same there: its records, and its closed gate
abbrev pub RecordsAreKept : Type 0
RecordsAreKept = (area : Area) (at next : ℕ) (payload c d : List ℕ) → HaveSame area c d → area.start ≤ at → next ≤ area.end
    → found_at at d ≡ Whole payload next → found_at at c ≡ Whole payload next

abbrev pub ClosedGatesAreKept : Type 0
ClosedGatesAreKept = (area : Area) (at : ℕ) (c d : List ℕ) → HaveSame area c d → area.start ≤ at → at ≤ area.end → ClosedAt at d → ClosedAt at c

-- so is its log, where it ends in the area
abbrev pub LogsAreKept : Type 0
LogsAreKept = (area : Area) (at end : ℕ) (c d : List ℕ) → HaveSame area c d → area.start ≤ at → end ≤ area.end → (log_at at d).end ≡ Some end
    → log_at at c ≡ log_at at d

-- an area that was written is found: its record, and then a closed gate
abbrev pub AreasAreFound : Type 0
AreasAreFound = (at : ℕ) (payload file : List ℕ) → at ≤ length file → length payload < 2 ^ 32
    → (found_at at (overlaid at (area_of payload) file) ≡ Whole payload (at + 5 + length payload)) × ClosedAt (at + 5 + length payload) (overlaid at (area_of payload) file)
