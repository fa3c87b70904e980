use Rattle.hac_journal.proofs.LawLemmas.{records-are-found, none-is-closed}
use Rattle.hac_journal.proofs.laws.records_are_found.Goals as goal

pub returns-clause-records : goal.returns-clause-records
returns-clause-records c = records-are-found

pub returns-clause-none : goal.returns-clause-none
returns-clause-none c = none-is-closed
