use Rattle.query_index.proofs.LawLemmas.{unasked_terms_stay}
use Rattle.query_index.proofs.laws.unasked_terms_stay.Goals as goal

pub returns : goal.returns
returns c = unasked_terms_stay
