-- A graph with the edges that one directory is to have.
use Rattle.std.proofs.Common.{◌≡◌, ◌≢◌, ℕ, true, false, cond, List, [], ◌∷◌, refl, sym, inl, inr}
use Rattle.std.specs.Prelude.{◌==◌, Option, None, Some}
use Rattle.std.proofs.lemmas.Bool.{eqb-true}
use Rattle.hac_model.specs.Tree.Depends.{Among}
use Rattle.dep_graph.specs.Graphs.{Seen, edges_at, edges_with}
use Rattle.dep_graph.specs.declared.graph.NewEdges.{NewEdges}
use Rattle.dep_graph.proofs.ReferLemmas.{numbers_of}

-- the new edges in front of the others, which so hide those of the same directory
abbrev pub nodes_with : Seen → Option NewEdges → List (ℕ × List ℕ)
nodes_with graph None = graph.nodes
nodes_with graph (Some next) = (next.dir, next.edges.items) ∷ graph.nodes

pub nodes-with-edges : (graph : Seen) (next : Option NewEdges) (number : ℕ) → edges_with graph next number ≡ edges_at (nodes_with graph next) number
nodes-with-edges graph None number = refl
nodes-with-edges graph (Some next) number = refl

-- what has edges has a node
pub edges-number : (nodes : List (ℕ × List ℕ)) (number : ℕ) → edges_at nodes number ≢ [] → Among (numbers_of nodes) number
edges-number [] number some = absurd (some refl)
edges-number (node ∷ nodes) number some =
    elim (number == node.0) as (λ b. (number == node.0) ≡ b → cond b node.1 (edges_at nodes number) ≢ [] → Among (numbers_of (node ∷ nodes)) number) [
      | true ↦ (λ same _. inl (sym (eqb-true number node.0 same)))
      | false ↦ (λ _ some. inr (edges-number nodes number some))
    ] refl some
