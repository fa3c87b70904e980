-- What a reader gives of the bytes that are pending.
use Rattle.std.specs.Prelude.{◌≡◌, ℕ, ◌+◌, ◌-◌, ◌<◌, ◌≤◌, Bool, true, false, if◌then◌else◌, nat_le, List, [], length, take}
use Rattle.hac_model.specs.Script.Lines.{is_quiet}
use Rattle.hac_model.specs.Script.{first_line, after_line, is_first_ended}
use Rattle.hac_model.specs.declared.limits.TheConstants.{LINE_LIMIT, SCRIPT_LIMIT}
use Rattle.line_reader.specs.declared.reading.Piece.{Piece}
use Rattle.line_reader.specs.declared.reading.Piece.TheVariants.{Blank, Bytes, LongLine, End}
use Rattle.std.specs.List.{position_or_len}
use Rattle.hac_model.specs.Bytes.{is_line_end}
use Rattle.line_reader.specs.declared.reading.Found.{Found}
use Rattle.line_reader.specs.declared.reading.Found.TheVariants.{Ended, Last, Past}
use Rattle.line_reader.specs.Reading.{Reading, given, piece_size, IsUnended}

-- the piece that a line is given as
abbrev pub piece_of : List ℕ → Piece
piece_of line = if is_quiet line then Blank else (if nat_le (length line) LINE_LIMIT then Bytes line else LongLine)

-- the piece is the first line of these bytes, which is not the last of a stream that goes on; then the rest is pending,
-- and there is none where the stream has ended: a reader learns of the end only where it has no other line
pub record GivesLine (piece : Piece) (ended : Bool) (bytes rest : List ℕ) : Type 0 where
  pub line : piece ≡ piece_of (first_line bytes)
  pub some : 0 < length bytes
  pub behind : rest ≡ after_line bytes
  pub whole : ended ≡ false → is_first_ended bytes ≡ true
  pub last : ended ≡ true → rest ≡ []

-- of pending bytes the piece is given, and the rest is pending then
abbrev pub GivesPiece : Piece → Bool → List ℕ → List ℕ → Type 0
GivesPiece End ended bytes rest = (bytes ≡ []) × (rest ≡ [])
GivesPiece Blank ended bytes rest = GivesLine Blank ended bytes rest
GivesPiece (Bytes line) ended bytes rest = GivesLine (Bytes line) ended bytes rest
GivesPiece LongLine ended bytes rest = GivesLine LongLine ended bytes rest

-- one byte more than the limit of a script was taken, and no line that ends within the limit is buffered
pub record IsPastLimit (reading : Reading) : Type 0 where
  pub taken : reading.taken ≡ SCRIPT_LIMIT + 1
  pub ended : reading.ended ≡ false
  pub buffered : 0 < length reading.buffered
  pub unended : IsUnended (take (length reading.buffered - 1) reading.buffered)

-- a line that is given lies within the limit, and the reader has gone on; it holds less than one piece then
pub record GoesOn (old new : Reading) : Type 0 where
  pub further : given old < given new
  pub limit : given new ≤ SCRIPT_LIMIT
  pub near : length new.buffered < piece_size

-- how the piece meets the limit of a script
abbrev pub PieceAdvances : Piece → Reading → Reading → Type 0
PieceAdvances End old new = new.taken ≤ SCRIPT_LIMIT
PieceAdvances Blank old new = GoesOn old new
PieceAdvances (Bytes line) old new = GoesOn old new
PieceAdvances LongLine old new = GoesOn old new

-- where the first line of what is buffered ends
abbrev pub IsLineFound : Found → Reading → Type 0
IsLineFound (Ended end) reading =
    (end ≡ position_or_len is_line_end reading.buffered) × (end < length reading.buffered) × (given reading + end < SCRIPT_LIMIT)
IsLineFound Last reading = (reading.ended ≡ true) × IsUnended reading.buffered
IsLineFound Past reading = IsPastLimit reading
