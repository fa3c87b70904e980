-- The root of a store: which of its two slots counts, and where the live area begins.
use Rattle.std.specs.Prelude.{◌≡◌, ℕ, suc, ◌+◌, nat_le, nat_lt, ◌==◌, if◌then◌else◌, ⊤, List, [], ◌∷◌, length, take, drop, slice_index, codes, Bool, true, false, Result, Ok, Err, Some, None}
use Rattle.std.specs.declared.option.Option.{Option}
use Rattle.byteorder.specs.Endian.{little_number}
use Rattle.hac_checkpoint.specs.declared.heads.Root.{Root}
use Rattle.hac_checkpoint.specs.declared.heads.RootFault.{RootFault}
use Rattle.hac_checkpoint.specs.declared.heads.RootFault.TheVariants.{Disk, Bad}
use Rattle.hac_checkpoint.specs.declared.heads.Slot.{Slot}
use Rattle.hac_checkpoint.specs.declared.heads.Slot.TheVariants.{A, B}
use Rattle.hac_checkpoint.specs.declared.heads.Stop.{Stop}
use Rattle.hac_checkpoint.specs.declared.heads.Stop.TheVariants.{Short, BadAt}

-- the format's name, at the places 1 to 8
abbrev pub store_name : List ℕ
store_name = codes "HACSTOR1"

-- where the gate of a slot is; its generation is in the 8 bytes behind the gate, and its start in the 8 behind those
abbrev pub gate_of : Slot → ℕ
gate_of A = 9
gate_of B = 26

abbrev pub is_open : Slot → List ℕ → Bool
is_open slot image = slice_index image (gate_of slot) == 1

abbrev pub generation : Slot → List ℕ → ℕ
generation slot image = little_number 8 (drop (gate_of slot + 1) image)

abbrev pub start : Slot → List ℕ → ℕ
start slot image = little_number 8 (drop (gate_of slot + 9) image)

-- how many of the first bytes agree
abbrev pub agreeing : List ℕ → List ℕ → ℕ
agreeing [] ys = 0
agreeing (x ∷ xs) [] = 0
agreeing (x ∷ xs) (y ∷ ys) = if x == y then suc (agreeing xs ys) else 0

-- the answer, if the image has this many bytes
abbrev pub needs : ℕ → List ℕ → Result Root Stop → Result Root Stop
needs n image answer = if nat_le n (length image) then answer else Err Short

-- the root in this slot, which counts: its start is not in the head of the store
unfoldable pub counting : Slot → List ℕ → Result Root Stop
counting slot image =
    needs (gate_of slot + 17) image
    (if nat_lt (start slot image) 64 then Err (BadAt (gate_of slot + 9)) else Ok (record { slot = slot; generation = generation slot image; start = start slot image }))

-- slot B is open: of two open slots that of the higher generation counts, and they differ
unfoldable pub higher : List ℕ → Result Root Stop
higher image =
    if is_open A image
    then (if generation A image == generation B image then Err (BadAt 27) else if nat_lt (generation B image) (generation A image) then counting A image else counting B image)
    else counting B image

-- the open slot counts
unfoldable pub slots : List ℕ → Result Root Stop
slots image =
    needs 27 image
    (if is_open B image then needs 35 image (higher image) else if is_open A image then counting A image else Err (BadAt 9))

-- behind an open gate of the store, the format's name
unfoldable pub named : List ℕ → Result Root Stop
named image =
    needs 9 image (if agreeing store_name (drop 1 image) == 8 then slots image else Err (BadAt (1 + agreeing store_name (drop 1 image))))

-- the root of an image, or the first thing that is wrong with it
unfoldable pub root_of : List ℕ → Result Root Stop
root_of image = needs 1 image (if slice_index image 0 == 1 then named image else Err (BadAt 0))

-- the place of what is wrong: if the image is too short, its end
abbrev pub placed : {A : Type 0} → List ℕ → Result A Stop → Result A ℕ
placed image (Ok value) = Ok value
placed image (Err Short) = Err (length image)
placed image (Err (BadAt at)) = Err at

-- the answer is the root of the file, or the place
abbrev pub IsRootOf : Result Root RootFault → List ℕ → Type 0
IsRootOf (Ok root) file = root_of file ≡ Ok root
IsRootOf (Err (Bad at)) file = placed file (root_of file) ≡ Err at
IsRootOf (Err Disk) file = ⊤

-- the answer says that a call of the disk failed
abbrev pub is_disk_fault : Result Root RootFault → Bool
is_disk_fault (Err Disk) = true
is_disk_fault other = false

-- so it is, if the disk tells its bytes
abbrev pub IsRootSeen : Result Root RootFault → Option (List ℕ) → Type 0
IsRootSeen result None = ⊤
IsRootSeen result (Some file) = IsRootOf result file

-- the root that the first n bytes of the file give, if the disk tells its bytes
abbrev pub IsHeadRoot : Result Root Stop → ℕ → Option (List ℕ) → Type 0
IsHeadRoot root n None = ⊤
IsHeadRoot root n (Some file) = root ≡ root_of (take n file)
