use Rattle.hac_model.proofs.ReplayLemmas.{replaying-is-no-dearer}
use Rattle.hac_model.proofs.laws.replaying_is_no_dearer.Goals as goal

pub returns : goal.returns
returns c = replaying-is-no-dearer
