use Rattle.query_text.proofs.BackLemmas.{read_back}
use Rattle.query_text.proofs.laws.printed_query_is_read_back.Goals as goal

pub returns : goal.returns
returns c = read_back
