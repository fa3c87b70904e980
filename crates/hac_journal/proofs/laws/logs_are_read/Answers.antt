use Rattle.hac_journal.proofs.LogLemmas.{logs-are-read}
use Rattle.hac_journal.proofs.laws.logs_are_read.Goals as goal

pub returns : goal.returns
returns c = logs-are-read
