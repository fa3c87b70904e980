use Rattle.std.proofs.Common.{◌≡◌, ℕ, subst, sym, ◌∙◌}
use Rattle.std.specs.Prelude.{IfOk}
use Rattle.hac_model.specs.Tree.Depends.{cycle_over}
use Rattle.hac_model.specs.Tree.Links.{parent_of}
use Rattle.kept_state.specs.Parts.{state_of}
use Rattle.kept_state.proofs.StateLemmas.{kept-bares, same-parent}
use Rattle.kept_state.proofs.edges.cycle_of_query.Goals as goal

pub returns : goal.returns
returns c =
    let kept = c.args.kept.now in
    let s = state_of kept in
    let parent : c.parent.result ≡ parent_of s c.args.dir = c.parent.ensures ∙ sym (same-parent s kept.tree.state (kept-bares kept) c.args.dir) in
    subst (λ (p : ℕ). IfOk c.cycle_over.result (λ way. way ≡ cycle_over s c.args.dir p c.args.query.now)) parent c.cycle_over.ensures
