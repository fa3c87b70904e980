use Rattle.std.proofs.Common.{ℕ, Option, nat_eq}
use Rattle.std.specs.Prelude.{drop}
use Rattle.indexmap.specs.IndexSet.{contains}
use Rattle.dep_graph.specs.Graphs.{edges_of}
use Rattle.dep_graph.specs.Passed.{KeepsAway}
use Rattle.dep_graph.specs.Searches.{IsFirstToReach}
use Rattle.dep_graph.proofs.graph.Graph.would_cycle.Given as goal

-- what is found from here on is what is found in all
abbrev pub invariant-loop-edge : goal.invariant-loop-edge
invariant-loop-edge l =
    KeepsAway (edges_of l.self) l.fn.dir (contains nat_eq l.seen)
    × ((found : Option ℕ) → IsFirstToReach (edges_of l.self) l.fn.dir (drop l.edge-index l.edges) found → IsFirstToReach (edges_of l.self) l.fn.dir l.edges found)
