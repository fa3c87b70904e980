use Rattle.std.proofs.Common.{Err, ap, ◌∙◌}
use Rattle.std.proofs.lemmas.Result.{err_from_is_err_and}
use Rattle.hac_model.specs.Script.Lines.{item_taken}
use Rattle.hac_top.proofs.AnswerLemmas.{item-stops, item-told}
use Rattle.hac_top.proofs.answering.Player.answer_line.Goals as goal

pub returns-in_err-reply-clause-answers : goal.returns-in_err-reply-clause-answers
returns-in_err-reply-clause-answers g c =
    let stop = err_from_is_err_and c.from_residual.result c.from_residual.ensures.1 in
    rw (stop.1 ∙ ap Err stop.2)
    (item-stops (g.D.Disk.seen c.args.disk.now) (g.D.Disk.seen c.store_line.new.disk) (g.P.Spaces.seen c.args.spaces.now) (g.P.Spaces.seen c.store_line.new.spaces) c.args.self.now.store c.store_line.new.store c.args.self.now.tick (item_taken c.args.line c.args.taken) (g.K.Sink.seen c.args.output.now)
    c.args.self.now.refused c.args.self.now.refused c.args.probes.now c.store_line.new.probes c.in_err-reply.field-0.0 c.in_err-reply.ensures)

pub returns-clause-answers : goal.returns-clause-answers
returns-clause-answers g c =
    item-told (g.D.Disk.seen c.args.disk.now) (g.D.Disk.seen c.store_line.new.disk) (g.D.Disk.seen c.tell.new.disk) (g.P.Spaces.seen c.args.spaces.now) (g.P.Spaces.seen c.store_line.new.spaces) c.args.self.now.store c.store_line.new.store c.tell.new.self.store c.in_ok-reply.reply
    (g.K.Sink.seen c.args.output.now) (g.K.Sink.seen c.tell.new.output) c.args.self.now.tick (item_taken c.args.line c.args.taken) c.args.probes.now c.store_line.new.probes c.tell.new.probes c.in_ok-reply.ensures c.args.self.now.refused c.tell.new.self.refused c.tell.result c.tell.ensures.refused c.tell.ensures.ok c.tell.ensures.err c.tell.ensures.probes

-- the store can go on once the line is stored
pub tell-requires : goal.tell-requires
tell-requires g c =
    let on = c.in_ok-reply.ensures.stores.ok.on in
    record { intact = on.intact ∙ c.requires.intact; place = on.place }
