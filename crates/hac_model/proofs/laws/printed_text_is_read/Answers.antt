use Rattle.hac_model.proofs.TextLemmas.{text-read, text-one_line}
use Rattle.hac_model.proofs.laws.printed_text_is_read.Goals as goal

pub returns-clause-read : goal.returns-clause-read
returns-clause-read c = text-read

pub returns-clause-line : goal.returns-clause-line
returns-clause-line c = text-one_line
