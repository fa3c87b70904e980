use Rattle.std.proofs.Common.{◌≡◌, ℕ, ap, subst, sym, ◌∙◌}
use Rattle.std.specs.Prelude.{Option, Some, None, IfOk, option_and_then}
use Rattle.std.specs.Option.{option_copied}
use Rattle.hac_model.specs.Tree.Depends.{cycle_over}
use Rattle.hac_model.specs.Query.Formula.{Formula}
use Rattle.hac_model.specs.Tree.Links.{query_at}
use Rattle.kept_state.specs.Parts.{state_of}
use Rattle.kept_state.proofs.StateLemmas.{kept-bares, same-query}
use Rattle.kept_state.proofs.edges.cycle_of_move.Goals as goal

pub returns-in-Some : goal.returns-in-Some
returns-in-Some c =
    let kept = c.args.kept.now in
    let s = state_of kept in
    let asked : query_at s c.args.entry ≡ Some c.in-Some.query.now = same-query s kept.tree.state (kept-bares kept) c.args.entry ∙ sym c.in-Some.ensures in
    subst (λ (o : Option (Formula ℕ)). IfOk c.cycle_over.result (λ way. way ≡ option_and_then (cycle_over s c.args.entry c.args.dir) o)) (sym asked) c.cycle_over.ensures

pub returns-in-None : goal.returns-in-None
returns-in-None c =
    let kept = c.args.kept.now in
    let s = state_of kept in
    let asked : query_at s c.args.entry ≡ None = same-query s kept.tree.state (kept-bares kept) c.args.entry ∙ sym c.query.ensures ∙ ap (λ o. option_copied o) c.in-None.is in
    sym (ap (λ (o : Option (Formula ℕ)). option_and_then (cycle_over s c.args.entry c.args.dir) o) asked)
