use Rattle.std.proofs.Common.{Err, ap, arith, subst, ◌∙◌}
use Rattle.std.proofs.lemmas.Result.{err_from_is_err_and}
use Rattle.hac_core.specs.Drafts.{CanSettle}
use Rattle.hac_model.specs.Script.Lines.{item_taken}
use Rattle.hac_model.specs.declared.states.State.{State}
use Rattle.hac_top.specs.declared.deciding.Decision.TheVariants.{Answer, Change}
use Rattle.hac_top.proofs.ItemLemmas.{item-first, item-stored}
use Rattle.hac_top.proofs.StoringLemmas.{answers-only}
use Rattle.hac_top.proofs.storing.store_line.Goals as goal

pub returns-in_err-decision : goal.returns-in_err-decision
returns-in_err-decision g c =
    let stop = err_from_is_err_and c.from_residual.result c.from_residual.ensures.1 in
    rw (stop.1 ∙ ap Err stop.2)
    (item-first (g.D.Disk.seen c.args.disk.now) (g.met.D.Disk.lawful c.args.disk.now) (g.P.Spaces.seen c.args.spaces.now) (g.P.Spaces.seen c.decide.new.spaces) c.args.store.now c.machine.result.now.state (item_taken c.args.line c.args.taken) c.decide.result c.machine.ensures.state c.decide.ensures.decides c.decide.ensures.probes)

pub returns-in-Answer : goal.returns-in-Answer
returns-in-Answer g c =
    let decides = rw c.in-Answer.is at c.in_ok-decision.ensures.decides in
    item-stored (g.D.Disk.seen c.args.disk.now) (g.D.Disk.seen c.args.disk.now) (g.P.Spaces.seen c.args.spaces.now) (g.P.Spaces.seen c.decide.new.spaces) c.args.store.now c.args.store.now c.machine.result.now.state (item_taken c.args.line c.args.taken) (Answer c.in-Answer.reply) c.machine.ensures.state decides c.decide.ensures.probes (omega arith)
    (answers-only (g.D.Disk.seen c.args.disk.now) (g.met.D.Disk.lawful c.args.disk.now) c.args.store.now c.in-Answer.reply c.requires.place)

pub store_events-requires-clause-can : goal.store_events-requires-clause-can
store_events-requires-clause-can g c =
    let decides = rw c.in-Change.is at c.in_ok-decision.ensures.decides in
    subst (λ (s : State). CanSettle s c.in-Change.settled) c.machine.ensures.state decides.happen

pub returns-in-Change : goal.returns-in-Change
returns-in-Change g c =
    let decides = rw c.in-Change.is at c.in_ok-decision.ensures.decides in
    rw c.storing_reply.ensures
    (item-stored (g.D.Disk.seen c.args.disk.now) (g.D.Disk.seen c.store_events.new.disk) (g.P.Spaces.seen c.args.spaces.now) (g.P.Spaces.seen c.decide.new.spaces) c.args.store.now c.store_events.new.store c.machine.result.now.state (item_taken c.args.line c.args.taken) (Change c.in-Change.settled) c.machine.ensures.state
    decides c.decide.ensures.probes c.store_events.ensures.probes c.store_events.ensures.stores)
