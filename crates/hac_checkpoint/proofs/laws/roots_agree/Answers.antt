use Rattle.hac_checkpoint.proofs.HeadLemmas.{roots-agree, roots-start-behind}
use Rattle.hac_checkpoint.proofs.laws.roots_agree.Goals as goal

pub returns-clause-agree : goal.returns-clause-agree
returns-clause-agree c = roots-agree

pub returns-clause-behind : goal.returns-clause-behind
returns-clause-behind c = roots-start-behind
