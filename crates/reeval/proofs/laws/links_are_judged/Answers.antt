use Rattle.reeval.proofs.JudgeLemmas.{links-judged}
use Rattle.reeval.proofs.laws.links_are_judged.Goals as goal

pub returns : goal.returns
returns c = links-judged
