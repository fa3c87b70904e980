-- What a run has written of its replies.
use Rattle.std.specs.Prelude.{◌≡◌, ℕ, ◌-◌, ◌<◌, ◌≤◌, true, List, [], ◌∷◌, ◌++◌, length, take, drop}
use Rattle.std.specs.Io.KnownBytes.{Appends}
use Rattle.hac_outside.specs.Causes.{ReportsFault}
use Rattle.hac_outside.specs.Seen.{SinkSeen, WritesSome}
use Rattle.hac_model.specs.Run.Play.{Turn, turn_text, turns_text}
use Rattle.hac_top.specs.declared.status.Status.{Status}
use Rattle.hac_top.specs.declared.status.Status.TheVariants.{WriteFault, DiskFault, Memory}

-- these bytes were written, and all was passed on, if it was before; no call failed
pub record WritesAll (before after : SinkSeen) (bytes : List ℕ) : Type 0 where
  pub written : Appends before.written after.written bytes
  pub passed : before.held_back ≡ 0 → after.held_back ≡ 0
  pub faults : after.faults ≡ before.faults

-- the sink failed when some of the bytes were written, or memory ran out before any was
abbrev pub StopsWriting : Status → SinkSeen → SinkSeen → List ℕ → Type 0
StopsWriting WriteFault before after bytes = WritesSome before after bytes × ReportsFault true before.faults after.faults
StopsWriting Memory before after bytes = after ≡ before
StopsWriting other before after bytes = ⊥

-- the same, or the disk failed before any was written
abbrev pub CutsWriting : Status → SinkSeen → SinkSeen → List ℕ → Type 0
CutsWriting DiskFault before after bytes = after ≡ before
CutsWriting other before after bytes = StopsWriting other before after bytes

-- the bytes are a proper beginning of the first reply; where there is none, they are nothing
abbrev pub IsBeginning : List ℕ → List Turn → Type 0
IsBeginning cut [] = cut ≡ []
IsBeginning cut (turn ∷ turns) = (rest : List ℕ) × (0 < length rest) × (turn_text turn ≡ cut ++ rest)

-- the reply that was written last: the beginning of one, or if there is none, the last whole one
abbrev pub last_written : List ℕ → List Turn → List ℕ
last_written [] done = turns_text (drop (length done - 1) done)
last_written (byte ∷ bytes) done = byte ∷ bytes

-- of these turns `done` replies were written whole, and then a proper beginning of the next. All of them were passed on
-- but the last.
pub record WritesReplies (turns : List Turn) (before after : SinkSeen) : Type 0 where
  pub done : ℕ
  pub within : done ≤ length turns
  pub cut : List ℕ
  pub short : IsBeginning cut (drop done turns)
  pub written : Appends before.written after.written (turns_text (take done turns) ++ cut)
  pub held : before.held_back ≡ 0 → after.held_back ≤ length (last_written cut (take done turns))
