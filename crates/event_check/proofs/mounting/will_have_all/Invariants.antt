use Rattle.std.proofs.Common.{◌≡◌, drop}
use Rattle.std.specs.List.{list_all}
use Rattle.event_check.specs.Mounting.{will_have}
use Rattle.event_check.proofs.mounting.will_have_all.Given as goal

-- the numbers are what those that are left are
abbrev pub invariant-loop-number : goal.invariant-loop-number
invariant-loop-number l = list_all (will_have l.tree.state l.names l.coming) l.numbers ≡ list_all (will_have l.tree.state l.names l.coming) (drop l.number-index l.numbers)
