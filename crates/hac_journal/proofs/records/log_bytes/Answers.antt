use Rattle.std.proofs.Common.{List, ℕ, ◌++◌, length, take, sym, ◌∙◌, arith, ap}
use Rattle.hac_journal.specs.Records.{contents_of, record_of, records_of}
use Rattle.hac_journal.proofs.RecordLemmas.{records_taken, short-at}
use Rattle.hac_journal.proofs.records.log_bytes.Goals as goal

pub push_record-requires : goal.push_record-requires
push_record-requires c =
    let short = short-at c.args.payloads.now c.loop-payload.payload-index c.payload-item.result c.loop-payload-test.true c.requires in
    let payload = ap (λ v. length v.items) c.payload-item.is in
    omega (arith, short, payload, ap length c.deref.ensures.value)

pub loop-payload-preserved : goal.loop-payload-preserved
loop-payload-preserved c =
    let before = records_of (contents_of (take c.loop-payload.payload-index c.args.payloads.now)) in
    c.in_ok-push_record.ensures
    ∙ ap (λ (l : List ℕ). l ++ record_of c.deref.result.now) c.loop-payload.invariant
    ∙ ap (λ (l : List ℕ). before ++ record_of l) (c.deref.ensures.value ∙ ap (λ v. v.items) c.payload-item.is)
    ∙ sym (records_taken c.args.payloads.now c.loop-payload.payload-index c.payload-item.result c.loop-payload-test.true)
