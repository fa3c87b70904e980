use Rattle.hac_model.proofs.AcyclicLemmas.{empty-valid}
use Rattle.hac_model.proofs.laws.empty_is_valid.Goals as goal

pub returns : goal.returns
returns c = empty-valid
