use Rattle.reeval.proofs.PlanLemmas.{empty-said}
use Rattle.reeval.proofs.before.BlankBefore.verdict.Goals as goal

pub returns : goal.returns
returns c = empty-said c.args._item c.args._dir
