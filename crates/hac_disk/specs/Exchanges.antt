-- One call of a disk.
use Rattle.std.specs.Prelude.{ℕ, Bool, List, Result}
use Rattle.hac_outside.specs.declared.fault.Failed.{Failed}

-- what a call asks of a disk, and what it answers: a name and its `make`; nothing, for the length; a place, what the slice
-- held before, and what it holds then; a place and bytes; nothing, for a sync
pub data Exchange : Type 0 where
  Attach : List ℕ → Bool → Result Unit Failed → Exchange
  Len : Result ℕ Failed → Exchange
  Read : ℕ → List ℕ → List ℕ → Result Unit Failed → Exchange
  Write : ℕ → List ℕ → Result Unit Failed → Exchange
  Sync : Result Unit Failed → Exchange
