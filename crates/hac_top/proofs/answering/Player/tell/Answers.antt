use Rattle.hac_top.proofs.AnswerLemmas.{steps-end, steps-stop}
use Rattle.hac_top.proofs.answering.Player.tell.Goals as goal

pub returns-in-Ok-clause-ok : goal.returns-in-Ok-clause-ok
returns-in-Ok-clause-ok g c =
    steps-end (g.D.Disk.seen c.args.disk.now) (g.D.Disk.seen c.tick.new.disk) c.args.self.now.store c.tick.new.store c.args.self.now.tick c.args.reply (g.K.Sink.seen c.args.output.now) (g.K.Sink.seen c.write_reply.new.output) c.in_ok-write_reply.ensures.ok
    (rw (c.write_reply.ensures.store, c.write_reply.ensures.tick, c.in-Ok.is) at c.tick.ensures.stores)

pub returns-in-Err-clause-err : goal.returns-in-Err-clause-err
returns-in-Err-clause-err g c =
    rw c.store_status.ensures
    (steps-stop (g.D.Disk.seen c.args.disk.now) (g.D.Disk.seen c.tick.new.disk) c.args.self.now.store c.tick.new.store c.args.self.now.tick c.args.reply (g.K.Sink.seen c.args.output.now) (g.K.Sink.seen c.write_reply.new.output) c.in_ok-write_reply.ensures.ok
    (g.met.D.Disk.lawful c.tick.new.disk) c.in-Err.fault (rw (c.write_reply.ensures.store, c.write_reply.ensures.tick, c.in-Err.is) at c.tick.ensures.stores))

pub returns-in-Ok-clause-probes : goal.returns-in-Ok-clause-probes
returns-in-Ok-clause-probes g c = rw (c.write_reply.ensures.store, c.write_reply.ensures.tick) at c.tick.ensures.probes

pub returns-in-Err-clause-probes : goal.returns-in-Err-clause-probes
returns-in-Err-clause-probes g c = rw (c.write_reply.ensures.store, c.write_reply.ensures.tick) at c.tick.ensures.probes
