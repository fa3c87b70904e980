use Rattle.std.proofs.Common.{◌+◌, ◌-◌, Err, ap, refl, sym, ◌∙◌, arith}
use Rattle.std.proofs.lemmas.Result.{err_from_is_err_and}
use Rattle.hac_store.specs.Stores.{Seen}
use Rattle.hac_store.proofs.RoomLemmas.{steps-have-room}
use Rattle.hac_top.proofs.CostLemmas.{batch-asks, fewer-steps}
use Rattle.hac_top.proofs.StoringLemmas.{all-stepped, none-stepped, part-happens, part-stepped, part-stopped, steps}
use Rattle.hac_top.proofs.StoringLemmas.{full-turn}
use Rattle.hac_top.proofs.storing.store_steps.Goals as goal

pub returns-then-not-room_for_steps-clause-stores : goal.returns-then-not-room_for_steps-clause-stores
returns-then-not-room_for_steps-clause-stores g c =
    full-turn (g.D.Disk.seen c.args.disk.now) (g.met.D.Disk.lawful c.args.disk.now) c.args.store.now (steps c.args.count) c.requires.usable.place (sym c.room_for_steps.ensures ∙ c.if-not-room_for_steps.true)

pub loop-left-init : goal.loop-left-init
loop-left-init g c =
    record {
      within = omega arith;
      so_far = none-stepped (g.D.Disk.seen c.args.disk.now) (g.met.D.Disk.lawful c.args.disk.now) c.args.store.now (c.args.count - c.args.count) c.args.count (omega arith) (sym (steps-have-room c.args.store.now.setting c.args.count) ∙ sym c.room_for_steps.ensures ∙ c.if-not-room_for_steps.false) c.requires.usable.place;
      asks = omega arith;
    }

pub steps-requires-clause-happen : goal.steps-requires-clause-happen
steps-requires-clause-happen g c =
    let was = c.loop-left.invariant in
    part-happens was.so_far c.min-batch.result (omega (arith, was.within, c.min-batch.ensures)) c.requires.happen

pub returns-clause-probes : goal.returns-clause-probes
returns-clause-probes g c =
    let z = c.args.store.now.setting in
    let most = fewer-steps z (c.args.count - c.loop-left.left) c.args.count (omega arith) (steps-have-room z c.args.count ∙ c.loop-left.invariant.so_far.room) in
    omega (arith, c.loop-left.invariant.asks, most)

pub returns-clause-stores : goal.returns-clause-stores
returns-clause-stores g c = all-stepped c.loop-left.invariant.so_far (omega (arith, c.loop-left-test.false))

pub returns-in_err-steps-clause-probes : goal.returns-in_err-steps-clause-probes
returns-in_err-steps-clause-probes g c =
    let z = c.args.store.now.setting in
    let was = c.loop-left.invariant in
    let done = c.args.count - c.loop-left.left in
    let batch = c.min-batch.result in
    let asks = batch-asks z.state c.loop-left.store.setting done batch (done + batch) c.args.probes.now c.loop-left.probes c.steps.new.probes refl (ap (λ (x : Seen). x.setting.state) was.so_far.store_is) was.asks c.steps.ensures.probes in
    let most = fewer-steps z (done + batch) c.args.count (omega (arith, was.within, c.min-batch.ensures)) (steps-have-room z c.args.count ∙ was.so_far.room) in
    omega (arith, asks, most)

pub returns-in_err-steps-clause-stores : goal.returns-in_err-steps-clause-stores
returns-in_err-steps-clause-stores g c =
    let stop = err_from_is_err_and c.from_residual.result c.from_residual.ensures.1 in
    let was = c.loop-left.invariant in
    rw (stop.1 ∙ ap Err stop.2)
    (part-stopped g.D.Disk.seen c.loop-left.disk c.steps.new.disk was.so_far c.min-batch.result (omega (arith, was.within, c.min-batch.ensures)) (omega (arith, c.loop-left-test.true, c.min-batch.ensures)) c.in_err-steps.field-0.0 c.in_err-steps.ensures.stores)

pub loop-left-preserved : goal.loop-left-preserved
loop-left-preserved g c =
    let was = c.loop-left.invariant in
    record {
      within = omega (arith, was.within);
      so_far =
          part-stepped g.D.Disk.seen c.loop-left.disk c.steps.new.disk was.so_far c.min-batch.result (omega (arith, was.within, c.min-batch.ensures)) (omega (arith, c.loop-left-test.true, c.min-batch.ensures)) c.in_ok-steps.ensures.stores (c.args.count - (c.loop-left.left - c.min-batch.result))
          (omega (arith, was.within, c.min-batch.ensures));
      asks =
          batch-asks c.args.store.now.setting.state c.loop-left.store.setting (c.args.count - c.loop-left.left) c.min-batch.result (c.args.count - (c.loop-left.left - c.min-batch.result)) c.args.probes.now c.loop-left.probes c.steps.new.probes
          (omega (arith, was.within, c.min-batch.ensures)) (ap (λ (x : Seen). x.setting.state) was.so_far.store_is) was.asks c.steps.ensures.probes;
    }
