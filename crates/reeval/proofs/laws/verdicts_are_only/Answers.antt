use Rattle.reeval.proofs.JudgeLemmas.{verdicts-only}
use Rattle.reeval.proofs.laws.verdicts_are_only.Goals as goal

pub returns : goal.returns
returns c = verdicts-only
