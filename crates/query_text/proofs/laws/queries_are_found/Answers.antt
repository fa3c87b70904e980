use Rattle.query_text.proofs.FaultLemmas.{is_found}
use Rattle.query_text.proofs.laws.queries_are_found.Goals as goal

pub returns : goal.returns
returns c = is_found
