use Rattle.std.proofs.Common.{◌+◌, length, nat_eq}
use Rattle.std.specs.Option.{option_copied}
use Rattle.hac_model.specs.Tree.Depends.{NeverReturns}
use Rattle.indexmap.specs.IndexSet.{contains}
use Rattle.dep_graph.specs.Graphs.{edges_with}
use Rattle.dep_graph.proofs.NextLemmas.{nodes_with}
use Rattle.dep_graph.proofs.OwedLemmas.{owed}
use Rattle.dep_graph.proofs.StepLemmas.{Ordering}
use Rattle.dep_graph.proofs.graph.Graph.order.Given as goal

abbrev pub invariant-stack : goal.invariant-stack
invariant-stack l = NeverReturns (edges_with l.self (option_copied l.next)) → Ordering (edges_with l.self (option_copied l.next)) l.fn.dirs l.done.items (contains nat_eq l.seen) l.stack

abbrev pub decreases-stack : goal.decreases-stack
decreases-stack l = owed (nodes_with l.self (option_copied l.next)) (contains nat_eq l.seen) + length l.stack
