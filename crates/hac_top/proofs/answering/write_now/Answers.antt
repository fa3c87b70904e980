use Rattle.hac_top.proofs.ReplyLemmas.{some-flushed}
use Rattle.hac_top.proofs.answering.write_now.Goals as goal

pub returns-clause-err : goal.returns-clause-err
returns-clause-err g c =
    let seen = g.K.Sink.seen in
    some-flushed c.flush.result (seen c.args.output.now) (seen c.write_all.new.sink) (seen c.flush.new.self) c.args.bytes.now c.in_ok-write_all.ensures.ok c.flush.ensures.bytes c.flush.ensures.held
