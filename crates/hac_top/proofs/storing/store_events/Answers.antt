use Rattle.std.proofs.Common.{Bool, cond, [], ◌∷◌, Err, ap, arith, replicate, ◌∙◌}
use Rattle.std.proofs.lemmas.Result.{err_from_is_err_and}
use Rattle.hac_model.specs.declared.events.Event.{Event}
use Rattle.hac_model.specs.declared.events.Event.TheVariants.{Step}
use Rattle.hac_top.specs.Deciding.{standing_turn}
use Rattle.hac_top.proofs.CostLemmas.{turn-within}
use Rattle.hac_top.proofs.StoringLemmas.{moves-session, stops-first, stores-once, stores-saved}
use Rattle.hac_top.proofs.storing.store_events.Goals as goal

pub returns-in-Change-clause-stores : goal.returns-in-Change-clause-stores
returns-in-Change-clause-stores g c =
    let can = rw c.in-Change.is at c.requires.can in
    let event : Event = c.in-Change.change.event in
    let all = ap (λ (b : Bool). cond b (event ∷ []) []) can.2 in
    rw c.in-Change.is (stores-once (g.met.D.Disk.lawful c.args.disk.now) c.command.result all (omega arith) c.requires.usable.place c.command.ensures.stores)

pub returns-in_ok-stand-in-Session-clause-stores : goal.returns-in_ok-stand-in-Session-clause-stores
returns-in_ok-stand-in-Session-clause-stores g c =
    let can = rw c.in-Session.is at c.requires.can in
    rw c.in-Session.is (moves-session (g.D.Disk.seen c.args.disk.now) (g.met.D.Disk.lawful c.args.disk.now) c.args.store.now c.stand.new.self c.in-Session.event can.1 c.in_ok-stand-in-Session.ensures.moved c.requires.usable.place)

pub returns-in_err-stand-in-Session-clause-stores : goal.returns-in_err-stand-in-Session-clause-stores
returns-in_err-stand-in-Session-clause-stores g c =
    let stop = err_from_is_err_and c.from_residual.result c.from_residual.ensures.1 in
    rw (c.in-Session.is, c.in_err-stand-in-Session.ensures.stayed, stop.1 ∙ ap Err stop.2) (stops-first (g.D.Disk.seen c.args.disk.now) (g.met.D.Disk.lawful c.args.disk.now) c.args.store.now (standing_turn c.args.store.now.setting c.in-Session.event))

pub returns-in-Checkpoint-clause-stores : goal.returns-in-Checkpoint-clause-stores
returns-in-Checkpoint-clause-stores g c = rw c.in-Checkpoint.is (stores-saved (g.met.D.Disk.lawful c.args.disk.now) c.checkpoint.result c.requires.usable.place c.checkpoint.ensures)

pub returns-in-Change-clause-probes : goal.returns-in-Change-clause-probes
returns-in-Change-clause-probes g c =
    let event : Event = c.in-Change.change.event in
    rw c.in-Change.is (turn-within c.args.store.now.setting (event ∷ []) c.args.probes.now c.command.new.probes c.command.ensures.probes)

pub returns-in-Steps-clause-probes : goal.returns-in-Steps-clause-probes
returns-in-Steps-clause-probes g c =
    rw c.in-Steps.is (turn-within c.args.store.now.setting (replicate c.in-Steps.count Step) c.args.probes.now c.store_steps.new.probes c.store_steps.ensures.probes)

pub returns-in_ok-stand-in-Session-clause-probes : goal.returns-in_ok-stand-in-Session-clause-probes
returns-in_ok-stand-in-Session-clause-probes g c = omega (arith, c.stand.ensures.probes)

pub returns-in_err-stand-in-Session-clause-probes : goal.returns-in_err-stand-in-Session-clause-probes
returns-in_err-stand-in-Session-clause-probes g c = omega (arith, c.stand.ensures.probes)
