-- Edges that entries put into a graph.
use Rattle.std.specs.Prelude.{ℕ, ◌∷◌, ◌++◌, List, filter}
use Rattle.std.specs.Option.{option_map_or}
use Rattle.dep_graph.specs.Graphs.{replaced}
use Rattle.hac_model.specs.Query.Queries.{named_in}
use Rattle.hac_model.specs.Tree.{is_directory_at, permanent_in, query_in}
use Rattle.hac_model.specs.declared.states.Entry.{Entry}

-- the edges of each number, where an entry got those to what it depends on, if it is a semantic directory
abbrev pub edges_put : List Entry → Entry → (ℕ → List ℕ) → ℕ → List ℕ
edges_put entries entry edges =
    option_map_or (λ query. replaced edges entry.number
    (entry.parent ∷ named_in query ++ filter (is_directory_at entries) (permanent_in entry.body)))
    (query_in entry.body) edges
