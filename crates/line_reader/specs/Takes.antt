-- What a reader gives of the bytes that follow a line.
use Rattle.std.specs.Prelude.{◌≡◌, ℕ, ◌+◌, ◌-◌, ◌<◌, ◌≤◌, Bool, true, false, List, [], ◌++◌, length, drop, Result, IfOk, IfErr}
use Rattle.hac_model.specs.Script.Puts.{came}
use Rattle.hac_model.specs.declared.limits.TheConstants.{SCRIPT_LIMIT, TEXT_LIMIT}
use Rattle.hac_model.specs.declared.taken.Taken.{Taken}
use Rattle.hac_model.specs.declared.taken.Taken.TheVariants.{Whole, Dropped, Short}
use Rattle.hac_outside.specs.Known.{Known}
use Rattle.hac_outside.specs.Seen.{SourceSeen}
use Rattle.line_reader.specs.Reading.{Reading, given, pending, piece_size, IsReaderBehind, LeavesReader}
use Rattle.line_reader.specs.declared.reading.LineFault.{LineFault}
use Rattle.line_reader.specs.declared.reading.LineFault.TheVariants.{Memory}

-- of pending bytes those that were asked for are taken, or all that there are where the source has ended
pub record Takes (taken : Taken) (count : ℕ) (ended : Bool) (bytes rest : List ℕ) : Type 0 where
  pub taken_is : taken ≡ came count bytes
  pub behind : rest ≡ drop count bytes
  pub whole : ended ≡ false → count ≤ length bytes
  pub last : ended ≡ true → rest ≡ []

-- what may come of this many bytes, whatever the source tells: all are kept if they are no more than a text may have
abbrev pub IsTakenOf : ℕ → Taken → Type 0
IsTakenOf count (Whole text) = (length text ≡ count) × (count ≤ TEXT_LIMIT)
IsTakenOf count Dropped = TEXT_LIMIT < count
IsTakenOf count Short = 0 < count

-- The bytes that were asked for are taken, and lie within the limit of a script. Too few are there only where the source
-- has ended. Less than one piece is buffered then.
pub record GivesPut (taken : Taken) (count : ℕ) (old new : Reading) (before after : SourceSeen) : Type 0 where
  pub bytes : Known (Takes taken count new.ended) (pending old before.left) (pending new after.left)
  pub kept : IsTakenOf count taken
  pub short : taken ≡ Short → new.ended ≡ true
  pub further : given old ≤ given new
  pub limit : given new ≤ SCRIPT_LIMIT
  pub source : IsReaderBehind 0 new after

-- how many of the bytes that are buffered lie within the limit of a script
abbrev pub within : Reading → ℕ
within reading = length reading.buffered - (reading.taken - SCRIPT_LIMIT)

-- Not all bytes were given: those that came are buffered, or where a text may not have as many, they are gone. Behind those
-- that are due less than one piece is buffered, and unless memory ran out, some are missing.
pub record Misses (fault : LineFault) (count : ℕ) (new : Reading) (bytes left : List ℕ) : Type 0 where
  pub gone : List ℕ
  pub bytes_are : bytes ≡ gone ++ (new.buffered ++ left)
  pub kept : count ≤ TEXT_LIMIT → gone ≡ []
  pub few : length gone ≤ count
  pub near : length gone + length new.buffered < count + piece_size
  pub missing : (fault ≡ Memory → ⊥) → length gone + within new < count

-- a fault came before the bytes were given, and they may be asked for again
pub record FallsShort (fault : LineFault) (count : ℕ) (old new : Reading) (before after : SourceSeen) : Type 0 where
  pub bytes : Known (Misses fault count new) (pending old before.left) after.left
  pub source : IsReaderBehind count new after

-- The bytes that a line asks for are given, or a fault came before, which loses no byte that a text may have. Bytes that are
-- buffered are given without a read, so a fault comes only where some are missing.
pub record TakesPut {S : Type 0} (seen : S → SourceSeen) (asked : ℕ) (old new : Reading) (before after : S)
    (result : Result Taken LineFault) : Type 0 where
  pub given : IfOk result (λ taken. GivesPut taken asked old new (seen before) (seen after))
  pub fault : IfErr result (λ fault. FallsShort fault asked old new (seen before) (seen after))
  pub unread : asked ≤ within old → after ≡ before
  pub leaves : LeavesReader result old new (seen before) (seen after)
