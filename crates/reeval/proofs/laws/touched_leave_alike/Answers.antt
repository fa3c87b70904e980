use Rattle.reeval.proofs.AlikeLemmas.{touched-leave}
use Rattle.reeval.proofs.laws.touched_leave_alike.Goals as goal

pub returns : goal.returns
returns c = touched-leave
