-- What a reader of lines holds.
use Rattle.std.specs.Prelude.{◌≡◌, ℕ, ◌+◌, ◌-◌, ◌≤◌, ◌<◌, ◌==◌, Bool, true, List, [], ◌++◌, length, Option, Result, Ok, Err, IsErrOf, false, refl}
use Rattle.std.specs.List.{position_or_len}
use Rattle.std.specs.Coded.{Coded, code_by, coded×, coded_ℕ, coded_bool, coded_list}
use Rattle.std.specs.Io.KnownBytes.{prepend_known, Keeps, Consumes, IsAtEnd}
use Rattle.hac_outside.specs.Causes.{ReportsFault}
use Rattle.hac_outside.specs.Known.{Known}
use Rattle.hac_outside.specs.Seen.{SourceSeen}
use Rattle.hac_model.specs.Bytes.{is_line_end}
use Rattle.hac_model.specs.declared.limits.TheConstants.{SCRIPT_LIMIT}
use Rattle.line_reader.specs.declared.reading.LineFault.{LineFault}
use Rattle.line_reader.specs.declared.reading.LineFault.TheVariants.{Read, Memory, TooLong}

-- the bytes that were read and not given yet, how many were read in all, and whether the source has ended
pub record Reading : Type 0 where
  pub buffered : List ℕ
  pub taken : ℕ
  pub ended : Bool

abbrev pub reading_code : Coded Reading
reading_code =
    code_by (List ℕ × (ℕ × Bool)) (coded× (coded_list coded_ℕ) (coded× coded_ℕ coded_bool)) (λ r. (r.buffered, (r.taken, r.ended))) (λ p. record { buffered = p.0; taken = p.1.0; ended = p.1.1 }) (λ _. refl)

-- the bytes have no line end
abbrev pub IsUnended : List ℕ → Type 0
IsUnended bytes = position_or_len is_line_end bytes ≡ length bytes

-- how many bytes one read takes at most
abbrev pub piece_size : ℕ
piece_size = 4096

-- What is buffered was taken. At most one byte above the limit of a script is taken, none where the source has ended, and
-- none above it is given.
pub record IsReading (reading : Reading) : Type 0 where
  pub kept : length reading.buffered ≤ reading.taken
  pub limit : reading.taken ≤ SCRIPT_LIMIT + 1
  pub ended : reading.ended ≡ true → reading.taken ≤ SCRIPT_LIMIT
  pub given : reading.taken ≤ SCRIPT_LIMIT + length reading.buffered

-- the bytes of the script that were not given yet, if the source tells those that it has left
abbrev pub pending : Reading → Option (List ℕ) → Option (List ℕ)
pending reading left = prepend_known reading.buffered left

-- how many bytes were given
abbrev pub given : Reading → ℕ
given reading = reading.taken - length reading.buffered

-- what was taken and what is left are as many bytes as before
abbrev pub SameTotal : ℕ → Option (List ℕ) → ℕ → Option (List ℕ) → Type 0
SameTotal old_taken old new_taken new = Known (λ old new. new_taken + length new ≡ old_taken + length old) old new

-- The reader is one of this source: it knows whether the source has given its end, and then nothing is left, nor buffered
-- but for the last line. Behind the first line it holds less than one piece.
pub record IsReaderOf (reading : Reading) (source : SourceSeen) : Type 0 where
  pub ended : source.ended ≡ reading.ended
  pub nothing : reading.ended ≡ true → IsAtEnd source.left
  pub last : reading.ended ≡ true → IsUnended reading.buffered
  pub near : length reading.buffered < position_or_len is_line_end reading.buffered + 1 + piece_size

-- the same of a reader behind a line that was given, of whose bytes so many are still due
pub record IsReaderBehind (due : ℕ) (reading : Reading) (source : SourceSeen) : Type 0 where
  pub ended : source.ended ≡ reading.ended
  pub nothing : reading.ended ≡ true → IsAtEnd source.left
  pub last : reading.ended ≡ true → reading.buffered ≡ []
  pub near : length reading.buffered < due + piece_size

-- a read failed
abbrev pub is_read_fault : {T : Type 0} → Result T LineFault → Bool
is_read_fault (Ok value) = false
is_read_fault (Err Read) = true
is_read_fault (Err Memory) = false
is_read_fault (Err TooLong) = false

-- What each call of a reader leaves. What it took is what the source lost, at most one byte above the limit of a
-- script, and then the script is too long. A fault of the source is reported as one, and nothing else is.
pub record LeavesReader {T : Type 0} (result : Result T LineFault) (old new : Reading) (before after : SourceSeen) : Type 0 where
  pub sound : IsReading new
  pub stays : old.ended ≡ true → new.ended ≡ true
  pub total : SameTotal old.taken before.left new.taken after.left
  pub faults : ReportsFault (is_read_fault result) before.faults after.faults
  pub unended : IsErrOf result Read → (new.ended ≡ false) × (new.taken ≤ SCRIPT_LIMIT)
  pub past : IsErrOf result TooLong → (new.ended ≡ false) × (new.taken ≡ SCRIPT_LIMIT + 1)

-- the reader took bytes of the source, none or more, and gave none
pub record ReadsOn (old new : Reading) (before after : SourceSeen) : Type 0 where
  pub pending : Keeps (pending old before.left) (pending new after.left)
  pub buffered : (piece : List ℕ) × (new.buffered ≡ old.buffered ++ piece)
  pub taken : old.taken ≤ new.taken
  pub given : given new ≡ given old
  pub total : SameTotal old.taken before.left new.taken after.left
  pub ended : after.ended ≡ new.ended
  pub nothing : new.ended ≡ true → IsAtEnd after.left
  pub stays : old.ended ≡ true → new.ended ≡ true

-- a piece of the source was put behind the bytes: at the end of the source none, else some, and at most this many
pub record ReadsPiece (old new : List ℕ) (before after : SourceSeen) (count most : ℕ) : Type 0 where
  pub piece : List ℕ
  pub bytes : new ≡ old ++ piece
  pub length_is : length piece ≡ count
  pub within : count ≤ most
  pub source : Consumes before.left after.left piece
  pub end : count ≡ 0 → IsAtEnd after.left
  pub ended : after.ended ≡ (count == 0)
