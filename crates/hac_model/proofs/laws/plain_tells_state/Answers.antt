use Rattle.hac_model.proofs.PlainLemmas.{plain-tells}
use Rattle.hac_model.proofs.laws.plain_tells_state.Goals as goal

pub returns : goal.returns
returns c = plain-tells
