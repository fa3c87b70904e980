-- What callers see of nodes is what they keep.
use Rattle.std.proofs.Common.{◌≡◌, ℕ, true, false, cond, List, [], ◌∷◌, refl, ap, sym, ◌∙◌}
use Rattle.std.specs.Prelude.{Some, Vec, map, nat_eq}
use Rattle.std.specs.Map.{lookup}
use Rattle.std.specs.Option.{option_map_or}
use Rattle.std.specs.declared.alloc.Global.{Global}
use Rattle.dep_graph.specs.Graphs.{Seen, edges_at, edges_of}
use Rattle.dep_graph.specs.Inner.{kept_in, seen_of}
use Rattle.dep_graph.specs.declared.graph.Graph.TheInside.{Inside}

pub kept-at : (entries : List (ℕ × Vec ℕ Global)) (number : ℕ) → edges_at (map (λ node. (node.0, node.1.items)) entries) number ≡ option_map_or (λ edges. edges.items) (lookup (nat_eq number) entries) []
kept-at [] number = refl
kept-at (e ∷ es) number =
    elim (nat_eq number e.0) as (λ b. cond b e.1.items (edges_at (map (λ node. (node.0, node.1.items)) es) number) ≡ option_map_or (λ edges. edges.items) (cond b (Some e.1) (lookup (nat_eq number) es)) []) [
      | true ↦ refl
      | false ↦ kept-at es number
    ]

pub kept-seen : (inside : Inside) (graph : Seen) → seen_of inside ≡ graph → (number : ℕ) → kept_in inside.nodes number ≡ edges_of graph number
kept-seen inside graph view number = sym (kept-at inside.nodes.entries number) ∙ ap (λ (seen : Seen). edges_of seen number) view
