use Rattle.hac_model.proofs.MarkLawLemmas.{marks-go, marks-set, marks-stay, queries-leave}
use Rattle.hac_model.proofs.laws.marks_are_kept.Goals as goal

pub returns-clause-set : goal.returns-clause-set
returns-clause-set c = marks-set

pub returns-clause-stay : goal.returns-clause-stay
returns-clause-stay c = marks-stay

pub returns-clause-queries : goal.returns-clause-queries
returns-clause-queries c = queries-leave

pub returns-clause-go : goal.returns-clause-go
returns-clause-go c = marks-go
