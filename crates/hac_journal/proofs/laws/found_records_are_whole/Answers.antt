use Rattle.hac_journal.proofs.LawLemmas.{found-is-whole, found-along}
use Rattle.hac_journal.proofs.laws.found_records_are_whole.Goals as goal

pub returns-clause-whole : goal.returns-clause-whole
returns-clause-whole c = found-is-whole

pub returns-clause-along : goal.returns-clause-along
returns-clause-along c = found-along
