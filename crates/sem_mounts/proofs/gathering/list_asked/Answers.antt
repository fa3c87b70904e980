-- No names rise.
use Rattle.std.proofs.Common.{rules}
use Rattle.sem_mounts.proofs.GatherLemmas.{none-rise}
use Rattle.sem_mounts.proofs.gathering.list_asked.Goals as goal

pub returns-in-None-clause-rising : goal.returns-in-None-clause-rising
returns-in-None-clause-rising g c = none-rise c.new-in-None.result (search rules)
