use Rattle.std.proofs.Common.{◌≡◌, nat_eq}
use Rattle.std.specs.Prelude.{drop}
use Rattle.indexmap.specs.IndexSet.{contains}
use Rattle.dep_graph.specs.Graphs.{edges_of}
use Rattle.dep_graph.specs.Orders.{all_placed, lead_back}
use Rattle.dep_graph.proofs.graph.Graph.lead_back.Given as goal

-- the rest tells what all do
abbrev pub invariant-loop-number : goal.invariant-loop-number
invariant-loop-number l =
    (lead_back (edges_of l.self) (contains nat_eq l.placed) (drop l.number-index l.numbers) ≡ lead_back (edges_of l.self) (contains nat_eq l.fn.placed) l.numbers)
    × (all_placed (contains nat_eq l.placed) (drop l.number-index l.numbers) ≡ all_placed (contains nat_eq l.fn.placed) l.numbers)
