use Rattle.std.proofs.Common.{Err, ap, refl, ◌∙◌}
use Rattle.std.proofs.lemmas.Result.{err_from_is_err_and}
use Rattle.hac_top.specs.Run.{outside}
use Rattle.hac_top.proofs.GoesOn.{fresh_reader}
use Rattle.hac_top.proofs.LineLemmas.{on-cut, on-end, on-stop, runs-begin, runs-next, stops-unread}
use Rattle.hac_top.proofs.playing.play_script.Goals as goal

pub returns-in_err-reader : goal.returns-in_err-reader
returns-in_err-reader g c =
    let before = outside (g.S.Source.seen c.args.input.now) (g.K.Sink.seen c.args.output.now) c.args.probes.now in
    let stop = err_from_is_err_and c.from_residual.result c.from_residual.ensures.1 in
    rw (stop.1 ∙ ap Err stop.2)
    (on-stop (runs-begin (g.D.Disk.seen c.args.disk.now) (g.met.D.Disk.lawful c.args.disk.now) c.args.player.now.tick before (g.P.Spaces.seen c.args.spaces.now) fresh_reader c.args.player.now.store c.args.player.now.refused refl c.requires.source c.requires.begun c.requires.usable) (stops-unread before.source))

pub lines-init : goal.lines-init
lines-init g c =
    let before = outside (g.S.Source.seen c.args.input.now) (g.K.Sink.seen c.args.output.now) c.args.probes.now in
    record {
      on = runs-begin (g.D.Disk.seen c.args.disk.now) (g.met.D.Disk.lawful c.args.disk.now) c.args.player.now.tick before (g.P.Spaces.seen c.args.spaces.now) c.in_ok-reader.reader c.args.player.now.store c.args.player.now.refused c.in_ok-reader.ensures c.requires.source c.requires.begun c.requires.usable;
      tick = refl;
    }

pub take_line-requires : goal.take_line-requires
take_line-requires g c = c.lines.invariant.on.reads

pub answer-requires : goal.answer-requires
answer-requires g c = c.lines.invariant.on.usable

pub returns-in_err-line : goal.returns-in_err-line
returns-in_err-line g c =
    let stop = err_from_is_err_and c.from_residual-in_err-line.result c.from_residual-in_err-line.ensures.1 in
    rw (stop.1 ∙ ap Err stop.2) (on-stop c.lines.invariant.on c.in_err-line.ensures.stops)

pub returns-in_err-answer-in-Some : goal.returns-in_err-answer-in-Some
returns-in_err-answer-in-Some g c =
    let stop = err_from_is_err_and c.from_residual-in_err-answer-in-Some.result c.from_residual-in_err-answer-in-Some.ensures.1 in
    let on = rw c.lines.invariant.tick at c.in_err-answer-in-Some.ensures.answers in
    rw (stop.1 ∙ ap Err stop.2) (on-cut c.lines.invariant.on (rw c.in-Some.is at c.in_ok-line.ensures.line) on.met on.asked on.answered _ on.few on.leads on.told (g.met.D.Disk.lawful c.answer.new.disk) on.err)

pub returns-in-None : goal.returns-in-None
returns-in-None g c = on-end c.lines.invariant.on (rw c.in-None.is at c.in_ok-line.ensures.line)

pub lines-preserved : goal.lines-preserved
lines-preserved g c =
    let on = rw c.lines.invariant.tick at c.in_ok-answer-in-Some.ensures.answers in
    record {
      on = runs-next c.lines.invariant.on (rw c.in-Some.is at c.in_ok-line.ensures.line) on.met on.asked on.answered _ on.few on.leads on.told on.ok on.refused;
      tick = c.in_ok-answer-in-Some.ensures.tick ∙ c.lines.invariant.tick;
    }
