use Rattle.std.proofs.Common.{◌≡◌, Bool, ap, sym, ◌∙◌}
use Rattle.std.specs.Prelude.{◌&&◌}
use Rattle.hac_model.specs.Tree.Limits.{answer_limits, layout_limits}
use Rattle.hac_model.specs.declared.states.State.{State}
use Rattle.layout_check.proofs.LimitLemmas.{are_kept, bounded_counts, limits-told}
use Rattle.layout_check.proofs.counting.passes_none.Goals as goal

pub returns-then-are_kept : goal.returns-then-are_kept
returns-then-are_kept c =
    let state : State = c.args.state.now in
    let layout : c.are_kept.result ≡ are_kept (layout_limits state.version (bounded_counts state)) =
    c.are_kept.ensures
    ∙ ap are_kept (c.layout_limits.ensures ∙ ap (layout_limits state.version) c.counts-counts.ensures) in
    let answers : c.are_kept-then-are_kept.result ≡ are_kept (answer_limits state.version (bounded_counts state)) =
    c.are_kept-then-are_kept.ensures
    ∙ ap are_kept (c.answer_limits.ensures ∙ ap (answer_limits state.version) c.counts-counts.ensures) in
    answers
    ∙ ap (λ (b : Bool). b && are_kept (answer_limits state.version (bounded_counts state)))
    (sym c.if-are_kept.true ∙ layout)
    ∙ limits-told state

pub returns-else-are_kept : goal.returns-else-are_kept
returns-else-are_kept c =
    let state : State = c.args.state.now in
    let layout : c.are_kept.result ≡ are_kept (layout_limits state.version (bounded_counts state)) =
    c.are_kept.ensures
    ∙ ap are_kept (c.layout_limits.ensures ∙ ap (layout_limits state.version) c.counts-counts.ensures) in
    c.if-are_kept.false
    ∙ ap (λ (b : Bool). b && are_kept (answer_limits state.version (bounded_counts state)))
    (sym c.if-are_kept.false ∙ layout)
    ∙ limits-told state
