use Rattle.std.proofs.Common.{ap, sym, ◌∙◌}
use Rattle.std.specs.Prelude.{is_none, not}
use Rattle.event_check.proofs.FittingLemmas.{clear-asking}
use Rattle.event_check.proofs.fitting.is_clear.Goals as goal

pub returns-in_ok-keeps_few_after-in-Setq : goal.returns-in_ok-keeps_few_after-in-Setq
returns-in_ok-keeps_few_after-in-Setq c =
    c.in_ok-keeps_few_after-in-Setq.ensures
    ∙ clear-asking c.args.kept.now.state c.args.event.now c.in-Setq.dir c.in-Setq.query c.in-Setq.told c.in-Setq.is
    (ap (λ o. is_none o) (sym c.in_ok-way-in-Setq.ensures) ∙ ap not (c.is_none.ensures ∙ ap not c.if-is_none.true))
