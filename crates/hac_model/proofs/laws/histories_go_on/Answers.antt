use Rattle.hac_model.proofs.HistoryLemmas.{histories-go-on}
use Rattle.hac_model.proofs.laws.histories_go_on.Goals as goal

pub returns : goal.returns
returns c = histories-go-on
