use Rattle.std.proofs.Common.{Bool, subst, ◌∙◌}
use Rattle.hac_model.specs.Tree.Events.{apply}
use Rattle.hac_model.specs.declared.states.State.{State}
use Rattle.kept_links.specs.Tasks.{AreAlong}
use Rattle.kept_links.proofs.TaskLemmas.{task-from}
use Rattle.kept_links.proofs.tasks.task_from.Goals as goal

pub returns : goal.returns
returns c =
    task-from c.args.transition.now.before.now.state c.args.transition.now.event.now c.know_valid.ensures c.requires.transition.accepted
    (record { touched = c.in_ok-touched.touched; everywhere = c.in_ok-from_slice.field-0; others = c.in_ok-others.others; along = c.in_ok-along.along })
    c.args.first c.args.way.now c.in_ok-touched.ensures c.requires.way (c.in_ok-from_slice.ensures.items ∙ c.as_slice.ensures.value)
    c.requires.begins c.in_ok-others.ensures
    (subst (λ (ties : Bool). AreAlong (apply c.args.transition.now.before.now.state c.args.transition.now.event.now) c.args.first ties c.in_ok-along.along.items) c.is_tie.ensures
    (subst (λ (next : State). AreAlong next c.args.first c.is_tie.result c.in_ok-along.along.items) c.requires.next c.in_ok-along.ensures))
