use Rattle.std.proofs.Common.{length, arith, ap}
use Rattle.hac_journal.proofs.RecordLemmas.{length_taken}
use Rattle.hac_journal.proofs.records.log_end.Goals as goal

pub loop-payload-preserved : goal.loop-payload-preserved
loop-payload-preserved c =
    let taken = length_taken c.args.payloads.now c.loop-payload.payload-index c.payload-item.result c.loop-payload-test.true in
    let payload = ap (λ v. length v.items) c.payload-item.is in
    omega (arith, taken, payload)
