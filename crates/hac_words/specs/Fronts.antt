-- The first bytes of a run as a number, by which most runs are told apart.
use Rattle.std.specs.Prelude.{◌≡◌, ℕ, zero, suc, ◌+◌, ◌*◌, ◌<◌, List, slice_index}

-- the first n bytes as a number, the first of them the highest, with 0 for each that is missing
unfoldable pub front_of : ℕ → List ℕ → ℕ
front_of zero bytes = 0
front_of (suc n) bytes = front_of n bytes * 256 + slice_index bytes n

-- the number is that of the first eight, and they are bytes
abbrev pub IsFront : ℕ → List ℕ → Type 0
IsFront front bytes = (front ≡ front_of 8 bytes) × ((at : ℕ) → slice_index bytes at < 256)
