use Rattle.std.proofs.Common.{◌≡◌, drop}
use Rattle.std.specs.List.{list_all}
use Rattle.event_check.specs.Mounting.{is_told_by, will_have}
use Rattle.event_check.proofs.mounting.each_told.Given as goal

-- the lists are what those that are left are
abbrev pub invariant-loop-numbers : goal.invariant-loop-numbers
invariant-loop-numbers l = list_all (is_told_by (will_have l.tree.state l.names l.coming)) l.told ≡ list_all (is_told_by (will_have l.tree.state l.names l.coming)) (drop l.numbers-index l.told)
