use Rattle.hac_model.proofs.QuoteLemmas.{word-read, word-only}
use Rattle.hac_model.proofs.laws.quoted_words_are_read.Goals as goal

pub returns-clause-read : goal.returns-clause-read
returns-clause-read c = word-read

pub returns-clause-only : goal.returns-clause-only
returns-clause-only c = word-only
