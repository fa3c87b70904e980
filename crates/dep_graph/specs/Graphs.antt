-- What callers see of a graph.
use Rattle.std.specs.Prelude.{ℕ, ◌==◌, if◌then◌else◌, List, [], ◌∷◌, Option, None, Some, drop, refl}
use Rattle.std.specs.Coded.{Coded, code_by, coded×, coded_list, coded_option, coded_ℕ}
use Rattle.dep_graph.specs.declared.graph.NewEdges.{NewEdges}

-- the directories with the edges of each, and which of them is ready for new ones
pub record Seen : Type 0 where
  pub nodes : List (ℕ × List ℕ)
  pub ready : Option ℕ

abbrev pub seen_code : Coded Seen
seen_code = code_by (List (ℕ × List ℕ) × Option ℕ) (coded× (coded_list (coded× coded_ℕ (coded_list coded_ℕ))) (coded_option coded_ℕ)) (λ seen. (seen.nodes, seen.ready)) (λ parts. record { nodes = parts.0; ready = parts.1 }) (λ _. refl)

-- the edges of a number among such directories
abbrev pub edges_at : List (ℕ × List ℕ) → ℕ → List ℕ
edges_at [] number = []
edges_at (node ∷ nodes) number = if number == node.0 then node.1 else edges_at nodes number

-- the edges of a directory; one that isn't there has none
abbrev pub edges_of : Seen → ℕ → List ℕ
edges_of graph dir = edges_at graph.nodes dir

-- the directories to which a directory refers, by its query or since they were added to it: all edges but the first
abbrev pub referred_by : Seen → ℕ → List ℕ
referred_by graph dir = drop 1 (edges_of graph dir)

-- the edges, but for those of one directory
abbrev pub replaced : (ℕ → List ℕ) → ℕ → List ℕ → ℕ → List ℕ
replaced edges dir new from = if from == dir then new else edges from

-- the edges as they will be once the new ones are set, if there are any
abbrev pub edges_with : Seen → Option NewEdges → ℕ → List ℕ
edges_with graph None = edges_of graph
edges_with graph (Some next) = replaced (edges_of graph) next.dir next.edges.items
