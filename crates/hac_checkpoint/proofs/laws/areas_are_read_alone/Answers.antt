use Rattle.hac_checkpoint.proofs.ApartLemmas.{closed-gates-are-kept, records-are-kept}
use Rattle.hac_checkpoint.proofs.LogLemmas.{logs-are-kept}
use Rattle.hac_checkpoint.proofs.laws.areas_are_read_alone.Goals as goal

pub returns-clause-records : goal.returns-clause-records
returns-clause-records c = records-are-kept

pub returns-clause-gates : goal.returns-clause-gates
returns-clause-gates c = closed-gates-are-kept

pub returns-clause-logs : goal.returns-clause-logs
returns-clause-logs c = logs-are-kept
