use Rattle.query_text.proofs.FaultLemmas.{one_reading}
use Rattle.query_text.proofs.laws.at_most_one_reading.Goals as goal

pub returns : goal.returns
returns c = one_reading
