use Rattle.std.proofs.Common.{inr}
use Rattle.hac_model.proofs.FollowLemmas.{look-follows, look-path}
use Rattle.hac_model.proofs.LookLemmas.{destination-found}
use Rattle.hac_model.proofs.MoveLemmas.{some-found}
use Rattle.hac_model.proofs.laws.looks_find.Goals as goal

pub returns-clause-find : goal.returns-clause-find
returns-clause-find c = λ s number h there. look-path s number h.layout (inr (some-found s.entries number there))

pub returns-clause-tell : goal.returns-clause-tell
returns-clause-tell c = λ s path number h found. destination-found s path number h.layout found

pub returns-clause-follow : goal.returns-clause-follow
returns-clause-follow c = λ s path number h found. look-follows s path number h.layout found
