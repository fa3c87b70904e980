use Rattle.std.proofs.Common.{ap, sym, ◌∙◌}
use Rattle.hac_model.specs.Tree.Events.{apply}
use Rattle.hac_model.specs.Tree.Limits.{counts}
use Rattle.hac_model.specs.declared.states.State.{State}
use Rattle.hac_core.proofs.replay.Replay.happen.Goals as goal

pub happen-requires-clause-counts : goal.happen-requires-clause-counts
happen-requires-clause-counts g c =
    let fits = rw c.in-Ok-Some.field-0-is at c.in-Ok-Some.ensures.fits in
    fits.1 ∙ sym (ap (λ (s : State). counts (apply s c.args.event)) (c.self.view_is ∙ c.fits.ensures.same))
