use Rattle.hac_model.proofs.EventLemmas.{commands-happen}
use Rattle.hac_model.proofs.laws.commands_happen.Goals as goal

pub returns : goal.returns
returns c = commands-happen
