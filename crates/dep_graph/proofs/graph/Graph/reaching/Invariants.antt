use Rattle.std.proofs.Common.{nat_eq}
use Rattle.std.specs.Prelude.{drop}
use Rattle.std.specs.Option.{option_copied}
use Rattle.indexmap.specs.IndexSet.{contains}
use Rattle.dep_graph.specs.Graphs.{edges_with}
use Rattle.dep_graph.proofs.ConeLemmas.{Keeping}
use Rattle.dep_graph.proofs.graph.Graph.reaching.Given as goal

abbrev pub invariant-loop-number : goal.invariant-loop-number
invariant-loop-number l = Keeping (edges_with l.self (option_copied l.next)) l.dirs l.cone.items (drop l.number-index l.ordered) (contains nat_eq l.found)
