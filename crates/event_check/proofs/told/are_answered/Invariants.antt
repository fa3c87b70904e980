use Rattle.std.proofs.Common.{◌≡◌, drop}
use Rattle.event_check.specs.Told.{are_answered}
use Rattle.event_check.proofs.told.are_answered.Given as goal

-- the answers are what those that are left are
abbrev pub invariant-loop-i : goal.invariant-loop-i
invariant-loop-i l = are_answered l.tree.state l.questions l.told ≡ are_answered l.tree.state (drop l.i l.questions) (drop l.i l.told)
