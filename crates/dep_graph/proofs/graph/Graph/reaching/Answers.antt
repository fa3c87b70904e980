use Rattle.std.proofs.Common.{◌≡◌, ℕ, ◌+◌, ◌∷◌, ◌||◌, nat_eq, List, [], subst, ap, sym, ◌∙◌}
use Rattle.std.specs.Prelude.{drop}
use Rattle.std.specs.List.{list_any}
use Rattle.std.specs.Option.{option_copied}
use Rattle.std.proofs.lemmas.List.{drop_all, drop_more}
use Rattle.indexmap.specs.IndexSet.{contains}
use Rattle.dep_graph.specs.Graphs.{edges_with}
use Rattle.dep_graph.specs.Steps.{Marks}
use Rattle.dep_graph.proofs.ConeLemmas.{Keeping, keeping-ends, keeping-keeps, keeping-passes, leads_in}
use Rattle.dep_graph.proofs.graph.Graph.reaching.Goals as goal
use Rattle.dep_graph.proofs.graph.Graph.reaching.Goals.{then-leads_into+in_ok-insert+in_ok-push, else-leads_into}

pub loop-number-preserved : goal.loop-number-preserved
loop-number-preserved c =
    let edges = edges_with c.args.self.now (option_copied c.args.next) in
    let dirs = c.args.dirs.now in
    let cone = c.loop-number.cone.items in
    let set = contains nat_eq c.loop-number.found in
    let number = c.number-item.result in
    let left = drop (c.loop-number.number-index + 1) c.args.ordered.now in
    let next : drop c.loop-number.number-index c.args.ordered.now ≡ number ∷ left = drop_more c.args.ordered.now c.loop-number.number-index number c.loop-number-test.true ∙ ap (λ (n : ℕ). n ∷ left) (sym c.number-item.is) in
    let before = subst (λ (ns : List ℕ). Keeping edges dirs cone ns set) next c.loop-number.invariant in
    let told : c.leads_into.result ≡ leads_in edges set number = c.leads_into.ensures ∙ ap (λ (es : List ℕ). set number || list_any (λ edge. set edge) es) c.edges_with.ensures in
    elim c.if-leads_into.branch [
      | then-leads_into+in_ok-insert+in_ok-push w ↦ (
          let marks : Marks number set (contains nat_eq w.insert.new.self) = subst (λ (n : ℕ). Marks n set (contains nat_eq w.insert.new.self)) w.get.ensures w.in_ok-insert.ensures.updates.0 in
          rw (w.found-is, w.cone-is, w.in_ok-push.ensures.items) (keeping-keeps edges dirs cone left set (contains nat_eq w.insert.new.self) number before marks (sym told ∙ w.if-leads_into.true)))
      | else-leads_into w ↦ rw (w.found-is, w.cone-is) (keeping-passes edges dirs cone left set number before (sym told ∙ w.if-leads_into.false))
    ]

pub returns : goal.returns
returns c =
    let edges = edges_with c.args.self.now (option_copied c.args.next) in
    let none : drop c.loop-number.number-index c.args.ordered.now ≡ [] = drop_all c.loop-number.number-index c.args.ordered.now c.loop-number-test.false in
    keeping-ends edges c.args.dirs.now c.loop-number.cone.items (drop c.loop-number.number-index c.args.ordered.now) (contains nat_eq c.loop-number.found) c.loop-number.invariant none
