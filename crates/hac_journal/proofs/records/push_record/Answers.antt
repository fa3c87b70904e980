use Rattle.std.proofs.Common.{arith}
use Rattle.std.proofs.lemmas.Grind.{common_steps}
use Rattle.hac_journal.specs.Records.{record_of}
use Rattle.hac_journal.proofs.records.push_record.Goals as goal

pub returns : goal.returns
unfolding record_of
returns c = grind (arith, common_steps)
