use Rattle.hac_model.proofs.QueryLemmas.{read_spelled}
use Rattle.query_text.proofs.laws.read_queries_are_spelled.Goals as goal

pub returns : goal.returns
returns c = read_spelled
