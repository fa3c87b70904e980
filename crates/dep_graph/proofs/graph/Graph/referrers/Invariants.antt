use Rattle.std.proofs.Common.{◌≡◌, ◌++◌}
use Rattle.dep_graph.proofs.ReferLemmas.{chosen, names, nodes_of}
use Rattle.dep_graph.proofs.graph.Graph.referrers.Given as goal

-- those found, and those among the nodes that are left, are all
abbrev pub invariant-loop-number : goal.invariant-loop-number
invariant-loop-number l = l.numbers.items ++ chosen (names l.dir) (nodes_of l.number-iterator) ≡ chosen (names l.dir) l.self.nodes
