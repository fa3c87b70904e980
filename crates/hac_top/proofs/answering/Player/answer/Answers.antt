use Rattle.hac_model.specs.declared.limits.LimitWord.TheVariants as limit
use Rattle.hac_model.specs.declared.replies.Refusal.TheVariants.{Limit}
use Rattle.hac_top.proofs.AnswerLemmas.{form-told, no-items, none-told}
use Rattle.hac_top.proofs.answering.Player.answer.Goals as goal

pub returns-in-LongLine-clause-answers : goal.returns-in-LongLine-clause-answers
returns-in-LongLine-clause-answers g c =
    rw c.in-LongLine.is
    (form-told (g.D.Disk.seen c.args.disk.now) (g.D.Disk.seen c.tell.new.disk) (g.P.Spaces.seen c.args.spaces.now) c.args.self.now.store c.tell.new.self.store (g.K.Sink.seen c.args.output.now) (g.K.Sink.seen c.tell.new.output) c.args.self.now.tick (Limit limit.Line) c.args.self.now.refused c.tell.new.self.refused
    c.args.probes.now c.tell.new.probes c.tell.result c.tell.ensures.refused c.tell.ensures.ok c.tell.ensures.err c.tell.ensures.probes)

pub returns-in-Blank-clause-answers : goal.returns-in-Blank-clause-answers
returns-in-Blank-clause-answers g c =
    rw (no-items c.args.line.piece c.args.line.taken c.in-Blank.is) (none-told (g.D.Disk.seen c.args.disk.now) (g.met.D.Disk.lawful c.args.disk.now) (g.P.Spaces.seen c.args.spaces.now) c.args.self.now.store (g.K.Sink.seen c.args.output.now) c.args.self.now.tick c.args.self.now.refused c.args.probes.now c.requires.place)
