use Rattle.hac_model.proofs.LinkLemmas.{links-fixed, links-only}
use Rattle.hac_model.proofs.laws.links_are_fixed.Goals as goal

pub returns-clause-stay : goal.returns-clause-stay
returns-clause-stay c = links-fixed

pub returns-clause-only : goal.returns-clause-only
returns-clause-only c = links-only

pub returns-clause-valid : goal.returns-clause-valid
returns-clause-valid c = λ s h. h.acyclic
