use Rattle.reeval.proofs.TieLemmas.{ties-leave}
use Rattle.reeval.proofs.laws.ties_leave_alike.Goals as goal

pub returns : goal.returns
returns c = ties-leave
