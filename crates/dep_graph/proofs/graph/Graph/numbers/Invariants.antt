use Rattle.std.proofs.Common.{◌≡◌, ◌++◌}
use Rattle.std.specs.Option.{option_copied}
use Rattle.dep_graph.proofs.NextLemmas.{nodes_with}
use Rattle.dep_graph.proofs.ReferLemmas.{nodes_of, numbers_of}
use Rattle.dep_graph.proofs.graph.Graph.numbers.Given as goal

-- those found, and those of the nodes that are left, are all
abbrev pub invariant-loop-number : goal.invariant-loop-number
invariant-loop-number l = l.numbers.items ++ numbers_of (nodes_of l.number-iterator) ≡ numbers_of (nodes_with l.self (option_copied l.next))
