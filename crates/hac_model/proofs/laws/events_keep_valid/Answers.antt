use Rattle.hac_model.proofs.AcyclicLemmas.{apply-valid}
use Rattle.hac_model.proofs.laws.events_keep_valid.Goals as goal

pub returns : goal.returns
returns c = apply-valid
