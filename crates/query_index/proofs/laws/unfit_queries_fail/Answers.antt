use Rattle.query_index.proofs.LawLemmas.{unfit_queries_fail}
use Rattle.query_index.proofs.laws.unfit_queries_fail.Goals as goal

pub returns : goal.returns
returns c = unfit_queries_fail
