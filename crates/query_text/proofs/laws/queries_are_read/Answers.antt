use Rattle.query_text.proofs.FaultLemmas.{read_is_found}
use Rattle.query_text.proofs.laws.queries_are_read.Goals as goal

pub returns : goal.returns
returns c = read_is_found
