use Rattle.std.proofs.Common.{arith}
use Rattle.event_codec.specs.Laws.{AreBytes}
use Rattle.event_codec.proofs.PayloadLemmas.{read_fits}
use Rattle.event_codec.proofs.reading.read_event.Goals as goal

pub returns-in-Ok-clause-fits : goal.returns-in-Ok-clause-fits
returns-in-Ok-clause-fits c =
    let bytes : AreBytes c.args.bytes.now = λ i. omega (arith, c.type_inv.bytes i) in
    read_fits c.args.version c.args.bytes.now (c.in-Ok.event, c.payload_at.new.bytes) bytes (rw c.new-rest.ensures at c.in-Ok.ensures)
