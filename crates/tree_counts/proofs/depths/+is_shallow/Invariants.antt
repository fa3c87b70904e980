use Rattle.std.proofs.Common.{◌≡◌, ◌-◌, true, take}
use Rattle.std.specs.List.{list_all}
use Rattle.tree_counts.specs.Depths.{is_shallow}
use Rattle.tree_counts.proofs.depths.+is_shallow.Given as goal

abbrev pub decreases-is_shallow : goal.decreases-is_shallow
decreases-is_shallow l = l.names

-- the children so far pass
abbrev pub invariant-loop-place : goal.invariant-loop-place
invariant-loop-place l = list_all (is_shallow (l.names - 1) l.tree.state) (take l.place l.children) ≡ true
