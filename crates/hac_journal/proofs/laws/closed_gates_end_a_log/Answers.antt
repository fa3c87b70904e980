use Rattle.hac_journal.proofs.LawLemmas.{closed-is-found, found-is-closed}
use Rattle.hac_journal.proofs.laws.closed_gates_end_a_log.Goals as goal

pub returns-clause-found : goal.returns-clause-found
returns-clause-found c = closed-is-found

pub returns-clause-only : goal.returns-clause-only
returns-clause-only c = found-is-closed
