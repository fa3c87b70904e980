-- What is seen of a source and of a sink, and what a call does to it.
use Rattle.std.specs.Prelude.{ℕ, Bool, false, ◌+◌, ◌≤◌, ◌==◌, ◌&&◌, nat_lt, List, length, take, Result, Ok, Err, MatchResult}
use Rattle.std.specs.Io.KnownBytes.{Appends}
use Rattle.std.specs.declared.option.Option.{Option}

-- a source: the bytes that it has left, if it tells them, how many faults there were, and whether its end was given
pub record SourceSeen : Type 0 where
  pub left : Option (List ℕ)
  pub faults : ℕ
  pub ended : Bool

-- a sink: the bytes that were written to it, if it tells them, how many of the last of them may be held back, as those
-- before them were passed on, and how many faults there were
pub record SinkSeen : Type 0 where
  pub written : Option (List ℕ)
  pub held_back : ℕ
  pub faults : ℕ

-- a read gives the end where it gives no byte to a place that isn't empty
abbrev pub gives_end : {E : Type 0} → Result ℕ E → List ℕ → Bool
gives_end (Ok count) into = (count == 0) && nat_lt 0 (length into)
gives_end (Err fault) into = false

-- at most the bytes that were taken are held back besides those that were
abbrev pub HoldsMore : {E : Type 0} → ℕ → ℕ → Result ℕ E → Type 0
HoldsMore before now result = MatchResult result (λ count. now ≤ before + count) (λ _. now ≤ before)

-- these bytes were written, and at most they are held back besides those that were
pub record Writes (old new : SinkSeen) (bytes : List ℕ) : Type 0 where
  pub written : Appends old.written new.written bytes
  pub held : new.held_back ≤ old.held_back + length bytes

-- the same of a beginning of these bytes
pub record WritesSome (old new : SinkSeen) (bytes : List ℕ) : Type 0 where
  pub count : ℕ
  pub within : count ≤ length bytes
  pub front : Writes old new (take count bytes)
