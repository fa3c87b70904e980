use Rattle.hac_model.proofs.JoinLemmas.{scripts-join}
use Rattle.hac_model.proofs.laws.scripts_join.Goals as goal

pub returns : goal.returns
returns c = scripts-join
