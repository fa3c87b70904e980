use Rattle.std.proofs.Common.{refl, arith, rules}
use Rattle.std.proofs.lemmas.Grind.{common_steps}
use Rattle.line_reader.proofs.TakeLemmas.{keeps-first}
use Rattle.line_reader.proofs.reading.Reader.keep_put.Goals as goal

pub bytes-init : goal.bytes-init
bytes-init g c = record { keeps = keeps-first c.args.asked c.args.self.now (g.S.Source.seen c.args.source.now) c.requires.source; unread = search rules; faults = refl }

pub returns-then-asked-within : goal.returns-then-asked-within
returns-then-asked-within g c = record { given = grind (arith, common_steps); fault = search rules; unread = search rules; leaves = grind (arith, common_steps) }
