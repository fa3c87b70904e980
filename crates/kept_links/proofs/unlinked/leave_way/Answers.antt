use Rattle.std.proofs.Common.{ℕ, ap, ◌∙◌}
use Rattle.std.specs.Prelude.{Option}
use Rattle.hac_model.specs.Tree.Touched.{is_the}
use Rattle.kept_links.proofs.TaskLemmas.{way-left}
use Rattle.kept_links.proofs.unlinked.leave_way.Goals as goal

pub returns-in-None-clause-after : goal.returns-in-None-clause-after
returns-in-None-clause-after c =
    way-left c.args.kept.now.state c.args.event.now c.know_valid.ensures c.requires.accepted
    (λ dir. c.begin.ensures dir ∙ ap (λ (first : Option ℕ). is_the first dir) c.in-None.is) c.args.way.now c.requires.way
