use Rattle.std.proofs.Common.{ap, sym, ◌∙◌}
use Rattle.event_check.specs.Told.{are_answered}
use Rattle.event_check.proofs.ToldLemmas.{answered-told, same-answered}
use Rattle.event_check.proofs.told.are_all_told.Goals as goal

pub returns : goal.returns
returns c =
    c.are_answered.ensures
    ∙ sym (same-answered c.args.kept.now.state c.tree.result.now.state c.tree.ensures.tree.bares c.as_slice.result.now c.args.told.now)
    ∙ ap (λ qs. are_answered c.args.kept.now.state qs c.args.told.now) (c.as_slice.ensures.value ∙ c.in_ok-questions.ensures)
    ∙ answered-told c.args.kept.now.state c.args.query.now c.args.told.now
