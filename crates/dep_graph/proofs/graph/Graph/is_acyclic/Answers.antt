use Rattle.std.proofs.Common.{◌≡◌, ℕ, Bool, false, nat_eq, List, subst, ap, sym, ◌∙◌}
use Rattle.std.specs.Prelude.{◌&&◌}
use Rattle.std.specs.List.{list_all, list_any}
use Rattle.std.proofs.lemmas.Bool.Decides.{Decides-at}
use Rattle.indexmap.specs.IndexSet.{contains}
use Rattle.dep_graph.specs.Graphs.{edges_of}
use Rattle.dep_graph.specs.Orders.{all_placed, is_settled, lead_back}
use Rattle.hac_model.specs.Tree.Depends.{NeverReturns}
use Rattle.dep_graph.specs.Searches.{AreSources}
use Rattle.dep_graph.proofs.OrderLemmas.{acyclic-Decides}
use Rattle.dep_graph.proofs.graph.Graph.is_acyclic.Goals as goal
use Rattle.dep_graph.proofs.graph.Graph.is_acyclic.Goals.{then-lead_back, else-lead_back}

pub returns : goal.returns
returns c =
    let edges = edges_of c.args.self.now in
    let dirs = c.in_ok-dirs.dirs.items in
    let numbers = c.in_ok-numbers.numbers.items in
    let placed = contains nat_eq c.new-placed.result in
    let fresh : (n : ℕ) → placed n ≡ false = λ n. ap (λ (ks : List ℕ). list_any (nat_eq n) ks) c.new-placed.ensures.empty in
    let settled : Bool = list_all (is_settled edges (all_placed placed numbers)) dirs in
    let both : Bool = lead_back edges placed numbers && settled in
    let back : c.in_ok-lead_back.lead_back ≡ lead_back edges placed numbers = c.in_ok-lead_back.ensures.told ∙ ap (λ (ns : List ℕ). lead_back edges placed ns) c.as_slice-2.ensures.value in
    let told : c.if-lead_back.result ≡ both = elim c.if-lead_back.branch [
      | then-lead_back w ↦ (
          let set : contains nat_eq c.lead_back.new.placed ≡ all_placed placed numbers = c.in_ok-lead_back.ensures.placed w.if-lead_back.true ∙ ap (λ (ns : List ℕ). all_placed placed ns) c.as_slice-2.ensures.value in
          let last : w.are_settled.result ≡ settled = w.are_settled.ensures ∙ ap (λ (ns : List ℕ). list_all (is_settled edges (contains nat_eq c.lead_back.new.placed)) ns) w.as_slice-then-lead_back.ensures.value ∙ ap (λ (p : ℕ → Bool). list_all (is_settled edges p) dirs) set in
          w.result-is ∙ last ∙ ap (λ (b : Bool). b && settled) (sym w.if-lead_back.true ∙ back))
      | else-lead_back w ↦ w.result-is ∙ w.if-lead_back.false ∙ ap (λ (b : Bool). b && settled) (sym w.if-lead_back.false ∙ back)
    ] in
    Decides-at c.if-lead_back.result both told (acyclic-Decides edges dirs numbers placed fresh (λ q some. (c.in_ok-dirs.ensures.all q).1 some) (subst (λ (ns : List ℕ). NeverReturns edges → AreSources edges ns numbers) c.as_slice.ensures.value c.in_ok-numbers.ensures))
