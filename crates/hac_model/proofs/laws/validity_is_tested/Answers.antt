use Rattle.hac_model.proofs.ValidTestLemmas.{valid-Decides}
use Rattle.hac_model.proofs.laws.validity_is_tested.Goals as goal

pub returns : goal.returns
returns c = valid-Decides
