use Rattle.query_text.proofs.PrintLemmas.{text_read}
use Rattle.query_text.proofs.laws.printed_query_is_read.Goals as goal

pub returns : goal.returns
returns c = text_read
