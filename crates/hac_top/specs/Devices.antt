-- The devices of a script that is drawn.
use Rattle.std.specs.Prelude.{ℕ, Bool, List, None, Some}
use Rattle.hac_outside.specs.Seen.{SinkSeen, SourceSeen}

-- a source that has the bytes of a script: those that it has left, and whether its end was given
pub record ScriptLeft : Type 0 where
  pub left : List ℕ
  pub ended : Bool

-- what is seen of it: no read of it fails
abbrev pub seen_of_script : ScriptLeft → SourceSeen
seen_of_script script = record { left = Some script.left; faults = 0; ended = script.ended }

-- what is seen of a sink that keeps nothing: no call of it fails
abbrev pub seen_of_nothing : SinkSeen
seen_of_nothing = record { written = None; held_back = 0; faults = 0 }
