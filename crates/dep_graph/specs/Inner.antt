-- How a graph keeps its nodes.
use Rattle.std.specs.Prelude.{◌≡◌, ℕ, Bool, true, false, ◌==◌, nat_eq, is_some, List, [], length, Vec, map, Some, IsTrue, IfSome}
use Rattle.std.specs.Option.{option_map_or}
use Rattle.std.specs.declared.alloc.Global.{Global}
use Rattle.indexmap.specs.IndexMap.{IndexMap, get}
use Rattle.dep_graph.specs.Graphs.{Seen}
use Rattle.dep_graph.specs.declared.graph.Graph.TheInside.{Inside}

module _ {S : Type 0} where
  -- there is a node of the number
  abbrev pub has_node : IndexMap ℕ (Vec ℕ Global) S → ℕ → Bool
  has_node nodes number = is_some (get nat_eq nodes number)

  -- the edges in the node of a number
  abbrev pub kept_in : IndexMap ℕ (Vec ℕ Global) S → ℕ → List ℕ
  kept_in nodes number = option_map_or (λ edges. edges.items) (get nat_eq nodes number) []

  -- there is a node of the number, and it has no edges
  abbrev pub is_bare : IndexMap ℕ (Vec ℕ Global) S → ℕ → Bool
  is_bare nodes number = option_map_or (λ edges. length edges.items == 0) (get nat_eq nodes number) false

abbrev pub seen_of : Inside → Seen
seen_of graph = record { nodes = map (λ node. (node.0, node.1.items)) graph.nodes.entries; ready = graph.ready }

-- the directory that was prepared has a node, and no other node is without edges
pub record AreNodesKept (graph : Inside) : Type 0 where
  pub place : IfSome graph.ready (λ dir. IsTrue (has_node graph.nodes dir))
  pub edges : (dir : ℕ) → is_bare graph.nodes dir ≡ true → graph.ready ≡ Some dir
