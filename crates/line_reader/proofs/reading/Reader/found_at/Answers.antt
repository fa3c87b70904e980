use Rattle.std.proofs.Common.{arith, length, ap}
use Rattle.line_reader.specs.Reading.{Reading}
use Rattle.line_reader.proofs.ReaderLemmas.{past_at}
use Rattle.line_reader.proofs.reading.Reader.found_at.Goals as goal

pub returns-else-given-end-lt-SCRIPT_LIMIT : goal.returns-else-given-end-lt-SCRIPT_LIMIT
returns-else-given-end-lt-SCRIPT_LIMIT c =
    past_at c.args.self.now c.args.end c.requires.place c.requires.inside c.buffered.ensures.sound
    (omega (arith, c.if-given-end-lt-SCRIPT_LIMIT.false, ap length c.buffered.ensures.buffered, ap (λ (r : Reading). r.taken) c.self.view_is))
