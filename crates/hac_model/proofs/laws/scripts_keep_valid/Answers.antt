use Rattle.hac_model.proofs.PlayLemmas.{scripts-valid}
use Rattle.hac_model.proofs.laws.scripts_keep_valid.Goals as goal

pub returns : goal.returns
returns c = λ given setting bytes rise h. scripts-valid given rise setting bytes h
