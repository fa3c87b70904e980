use Rattle.std.proofs.Common.{subst, sym}
use Rattle.std.specs.Prelude.{IfOk}
use Rattle.hac_model.specs.declared.states.State.{State}
use Rattle.reeval.specs.Settled.{IsPlanned}
use Rattle.reindex.specs.Past.{Lead}
use Rattle.reindex.proofs.SettledLemmas.{leads-both}
use Rattle.kept_links.proofs.CostLemmas.{planned-cost}
use Rattle.kept_links.proofs.TaskLemmas.{way-still}
use Rattle.kept_links.proofs.touched.delta_of_task.Goals as goal

pub task_of_touched-requires-clause-way : goal.task_of_touched-requires-clause-way
task_of_touched-requires-clause-way g c = way-still c.args.coming.now.kept.now.state c.args.coming.now.event.now c.know_valid.ensures c.requires.coming.accepted c.args.coming.now.way.now c.requires.never c.requires.coming.way

pub returns-clause-behind : goal.returns-clause-behind
returns-clause-behind g c =
    let s = c.args.coming.now.kept.now.state in
    let planned : IsPlanned s c.new-outlook.result c.in_ok-task.task = subst (λ (t : State). IsPlanned s t c.in_ok-task.task) (sym c.new-outlook.ensures) c.in_ok-task.ensures.planned in
    subst (λ (t : State). IfOk c.plan.result (λ delta. Lead s t delta.items)) c.new-outlook.ensures
    (leads-both s c.new-outlook.result c.plan.result (c.plan.ensures.news planned) (c.plan.ensures.fresh planned))

pub returns-clause-probes : goal.returns-clause-probes
returns-clause-probes g c =
    planned-cost c.args.coming.now.kept.now.state c.new-outlook.result c.args.coming.now.event.now c.in_ok-task.task c.args.probes.now c.plan.new.probes c.new-outlook.ensures c.in_ok-task.ensures c.plan.ensures.probes
