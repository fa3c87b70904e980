use Rattle.std.proofs.Common.{replicate, Err, ap, arith, refl, ◌∙◌, sym}
use Rattle.std.proofs.lemmas.Result.{err_from_is_err_and}
use Rattle.hac_model.specs.declared.events.Event.TheVariants.{Step}
use Rattle.hac_store.proofs.PutLemmas.{none-stored, steps-kept}
use Rattle.hac_store.proofs.RoomLemmas.{room-costs}
use Rattle.hac_store.proofs.store.Store.steps.Goals as goal

pub returns-then-not-room_for_steps-clause-stores : goal.returns-then-not-room_for_steps-clause-stores
returns-then-not-room_for_steps-clause-stores g c =
    none-stored (g.met.D.Disk.lawful c.args.disk.now) refl (sym c.room_for_steps.ensures ∙ c.if-not-room_for_steps.true, (refl, refl)) refl

pub returns-in_err-payloads-clause-stores : goal.returns-in_err-payloads-clause-stores
returns-in_err-payloads-clause-stores g c =
    let stop = err_from_is_err_and c.from_residual.result c.from_residual.ensures.1 in
    rw (stop.1 ∙ ap Err stop.2)
    (none-stored (g.met.D.Disk.lawful c.args.disk.now) refl (refl, refl) refl)

pub put-requires-clause-stored : goal.put-requires-clause-stored
put-requires-clause-stored g c = steps-kept c.args.count

pub returns-clause-probes : goal.returns-clause-probes
returns-clause-probes g c =
    let z = c.args.self.now.setting in
    let all = room-costs z (replicate c.args.count Step) (sym c.room_for_steps.ensures ∙ c.if-not-room_for_steps.false) in
    omega (arith, c.put.ensures.probes, all)
