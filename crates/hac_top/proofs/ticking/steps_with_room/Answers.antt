use Rattle.std.proofs.Common.{◌≡◌, ◌+◌, ◌∙◌, ap, inr, sym, arith, replicate}
use Rattle.hac_model.specs.Run.Play.{have_room}
use Rattle.hac_model.specs.declared.events.Event.TheVariants.{Step}
use Rattle.hac_top.proofs.ticking.steps_with_room.Goals as goal

pub returns-then-room_for_steps-clause-room : goal.returns-then-room_for_steps-clause-room
returns-then-room_for_steps-clause-room c = sym c.room_for_steps.ensures ∙ c.if-room_for_steps.true

pub returns-clause-room : goal.returns-clause-room
returns-clause-room c = c.loop-past.invariant.room

pub returns-clause-most : goal.returns-clause-most
returns-clause-most c =
    let was = c.loop-past.invariant in
    let next : c.loop-past.fits + 1 ≡ c.loop-past.past = omega (arith, was.some, c.loop-past-test.false) in
    inr (ap (λ n. have_room c.args.store.now.setting (replicate n Step)) next ∙ was.full)
