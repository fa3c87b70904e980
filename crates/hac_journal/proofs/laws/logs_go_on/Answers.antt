use Rattle.hac_journal.proofs.LogLemmas.{logs-end-closed, logs-go-on}
use Rattle.hac_journal.proofs.laws.logs_go_on.Goals as goal

pub returns-clause-on : goal.returns-clause-on
returns-clause-on c = logs-go-on

pub returns-clause-closed : goal.returns-clause-closed
returns-clause-closed c = logs-end-closed
