use Rattle.hac_model.proofs.BareLemmas.{bare-commutes}
use Rattle.hac_model.proofs.laws.bare_commutes.Goals as goal

pub returns : goal.returns
returns c = bare-commutes
