-- What is at a place of a file of records.
use Rattle.std.specs.Prelude.{◌≡◌, ℕ, ◌+◌, ◌-◌, ◌^◌, ◌<◌, ⊤, nat_lt, ◌==◌, if◌then◌else◌, List, [], ◌∷◌, ◌++◌, length, take, drop, Some, None}
use Rattle.std.specs.declared.option.Option.{Option}
use Rattle.byteorder.specs.Endian.{little_number}
use Rattle.hac_journal.specs.declared.finding.Look.{Look}
use Rattle.hac_journal.specs.declared.finding.Look.TheVariants.{Record, ClosedGate, Needs}
use Rattle.hac_journal.specs.declared.finding.Next.{Next}
use Rattle.hac_journal.specs.declared.finding.Next.TheVariants.{Entry, End, Bad}

-- a record that is whole, with its payload and the place of the gate behind it; a gate that isn't open; or less than is
-- needed
pub data Found : Type 0 where
  Whole : List ℕ → ℕ → Found
  Closed : Found
  Short : Found

-- behind an open gate at this place: a length, as many bytes, and the next gate are needed
unfoldable pub behind_gate : ℕ → List ℕ → Found
behind_gate at rest =
    let size = little_number 4 rest in
    if nat_lt (4 + size) (length rest) then Whole (take size (drop 4 rest)) (at + 5 + size) else Short

-- what these bytes, at this place, are
abbrev pub found_in : ℕ → List ℕ → Found
found_in at [] = Short
found_in at (gate ∷ rest) = if gate == 1 then behind_gate at rest else Closed

-- what is at a place of the file
abbrev pub found_at : ℕ → List ℕ → Found
found_at at file = found_in at (drop at file)

-- the answer is what was found; if less was there than is needed, it has the file's length
abbrev pub Tells : Next → Found → List ℕ → Type 0
Tells (Entry payload next) found file = found ≡ Whole payload.items next
Tells End found file = found ≡ Closed
Tells (Bad at) found file = (found ≡ Short) × (at ≡ length file)

-- the answer is what is at a place of the file, if the disk tells its bytes
abbrev pub TellsAt : Next → ℕ → Option (List ℕ) → Type 0
TellsAt next at None = ⊤
TellsAt next at (Some file) = Tells next (found_at at file) file

-- a record that was found ends behind its gate, its length and its payload
abbrev pub GoesAhead : Next → ℕ → Type 0
GoesAhead (Entry payload next) at = next ≡ at + 5 + length payload.items
GoesAhead End at = ⊤
GoesAhead (Bad place) at = ⊤

-- bytes of a file that were read, and the place where they begin
pub record Window : Type 0 where
  pub start : ℕ
  pub bytes : List ℕ

-- how many of them are before this place: all, if the place is before them
abbrev pub skipped : Window → ℕ → ℕ
skipped window at = if nat_lt at window.start then length window.bytes else at - window.start

-- those from this place on
abbrev pub held_from : Window → ℕ → List ℕ
held_from window at = drop (skipped window at) window.bytes

-- what some bytes say of the place where they begin, whatever follows them: a whole record with a payload of this
-- size, a gate that isn't open, or too little where fewer bytes follow than this
abbrev pub Shows : Look → List ℕ → Type 0
Shows (Record size) bytes = (5 + size < length bytes) × ((more : List ℕ) (at : ℕ) → found_in at (bytes ++ more) ≡ Whole (take size (drop 5 bytes)) (at + 5 + size))
Shows ClosedGate bytes = (more : List ℕ) (at : ℕ) → found_in at (bytes ++ more) ≡ Closed
Shows (Needs count) bytes = (length bytes < count) × (count < 2 ^ 33) × ((more : List ℕ) (at : ℕ) → length (bytes ++ more) < count → found_in at (bytes ++ more) ≡ Short)
