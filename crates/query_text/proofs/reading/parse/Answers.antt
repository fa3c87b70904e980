use Rattle.query_text.proofs.SoundLemmas.{reads_spelled}
use Rattle.query_text.proofs.reading.parse.Goals as goal

pub returns-clause-spelled : goal.returns-clause-spelled
returns-clause-spelled c = reads_spelled c.args.bytes.now c.parse_short-outcome.result c.parse_short-outcome.ensures
