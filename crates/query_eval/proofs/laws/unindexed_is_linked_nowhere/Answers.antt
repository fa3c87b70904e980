use Rattle.query_eval.proofs.JudgeLemmas.{passes-none}
use Rattle.query_eval.proofs.laws.unindexed_is_linked_nowhere.Goals as goal

pub returns : goal.returns
returns c = passes-none
