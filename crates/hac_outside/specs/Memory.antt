-- What a source and a sink in memory are seen as.
use Rattle.std.specs.Prelude.{◌≡◌, ℕ, Bool, ◌+◌, min, max, List, length, None, Some}
use Rattle.std.specs.declared.option.Option.{Option}
use Rattle.hac_outside.specs.Calls.{IsFailingCall, next_number}

-- a count of bytes, cut to a piece where there is one: a piece of 0 counts as 1
abbrev pub cut_to : Option ℕ → ℕ → ℕ
cut_to None count = count
cut_to (Some piece) count = min (max piece 1) count

-- a source: the bytes that it has left, the pieces that it gives them in, the calls that are to fail, the calls and the
-- faults so far, and whether its end was given
pub record SourceState : Type 0 where
  pub left : List ℕ
  pub pieces : List ℕ
  pub failing : List ℕ
  pub calls : ℕ
  pub faults : ℕ
  pub ended : Bool

-- a sink: the bytes that it holds, how many of them were passed on, how many more it has room for, the last call that
-- it has room for, the calls that are to fail, the calls and the faults so far
pub record SinkState : Type 0 where
  pub written : List ℕ
  pub flushed : ℕ
  pub room : ℕ
  pub last_call : ℕ
  pub failing : List ℕ
  pub calls : ℕ
  pub faults : ℕ

-- the sink's next call fails, whatever it is asked
abbrev pub IsFailing : SinkState → Type 0
IsFailing sink = IsFailingCall sink.last_call sink.failing sink.calls

-- a read has been counted, and the plan of the source stays
pub record IsNextRead (old new : SourceState) : Type 0 where
  pub pieces : new.pieces ≡ old.pieces
  pub failing : new.failing ≡ old.failing
  pub calls : new.calls ≡ next_number old.calls

-- a call has been counted, the plan of the sink stays, and what was written takes up its room
pub record IsNextCall (old new : SinkState) : Type 0 where
  pub last_call : new.last_call ≡ old.last_call
  pub failing : new.failing ≡ old.failing
  pub calls : new.calls ≡ next_number old.calls
  pub room : new.room + length new.written ≡ old.room + length old.written
