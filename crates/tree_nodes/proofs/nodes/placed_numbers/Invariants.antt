use Rattle.std.proofs.Common.{◌≡◌, ◌++◌}
use Rattle.tree_nodes.specs.Nodes.{placed_in}
use Rattle.tree_nodes.proofs.nodes.placed_numbers.Given as goal

-- those found, and those among the nodes that are left, are all
abbrev pub invariant-loop-number : goal.invariant-loop-number
invariant-loop-number l = l.numbers.items ++ placed_in l.number-iterator ≡ placed_in l.nodes.entries
