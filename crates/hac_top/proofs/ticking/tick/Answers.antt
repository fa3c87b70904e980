use Rattle.hac_model.specs.Run.Play.{steps_behind}
use Rattle.hac_top.proofs.CostLemmas.{due-asks}
use Rattle.hac_top.proofs.StoringLemmas.{due-stored}
use Rattle.hac_top.proofs.ticking.tick.Goals as goal

pub returns-clause-stores : goal.returns-clause-stores
returns-clause-stores g c =
    due-stored c.steps_due-count.result (steps_behind c.args.most c.args.store.now.setting) c.steps_due-count.ensures.room c.steps_due-count.ensures.due c.store_steps.result c.store_steps.ensures.stores

pub returns-clause-probes : goal.returns-clause-probes
returns-clause-probes g c =
    due-asks c.args.store.now.setting c.args.most c.steps_due-count.result c.args.probes.now c.store_steps.new.probes c.steps_due-count.ensures.due c.store_steps.ensures.probes
