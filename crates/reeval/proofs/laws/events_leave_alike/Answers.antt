use Rattle.reeval.proofs.EventsLeave.{events-leave}
use Rattle.reeval.proofs.laws.events_leave_alike.Goals as goal

pub returns : goal.returns
returns c = events-leave
