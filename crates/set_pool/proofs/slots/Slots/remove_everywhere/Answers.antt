use Rattle.std.proofs.Common.{ap, arith, get_or, map, subst, sym}
use Rattle.set_pool.specs.Lists.{DropsAt}
use Rattle.set_pool.specs.Slots.{IsStacked, lists_of, slots_without}
use Rattle.set_pool.proofs.SlotLemmas.{all-rise}
use Rattle.set_pool.proofs.ThinLemmas.{get_or_default, thin-lists, thin-stacked, thinned-rises, thinned-whole}
use Rattle.set_pool.proofs.slots.Slots.remove_everywhere.Goals as goal

pub invariant_of-self : goal.invariant_of-self
invariant_of-self c =
    let whole = thinned-whole c.args.value c.loop-slot.slot-index c.self.inside.slots.len c.self.inside.slots.items c.deref_mut-slot-items.result.now c.loop-slot.slot-items c.self.inside.slots.ok.0 c.deref_mut-slot-items.ensures.value c.loop-slot-test.false c.loop-slot.invariant in
    subst (λ slots. IsStacked slots c.self.inside.top c.self.inside.free) (sym whole) (thin-stacked c.args.value c.self.inside.slots.items c.self.inside.top c.self.inside.free c.self.invariant)

pub remove-requires : goal.remove-requires
remove-requires c = thinned-rises c.args.value c.loop-slot.slot-index c.self.inside.slots.items c.deref_mut-slot-items.result.now c.loop-slot.slot-items (get_or c.loop-slot.slot-items c.loop-slot.slot-index c.slot-item.result) c.deref_mut-slot-items.ensures.value c.loop-slot-test.true c.loop-slot.auto.slot-items (get_or_default c.loop-slot.slot-items c.loop-slot.slot-index c.slot-item.result (let e = c.loop-slot.auto.slot-items in let l = c.loop-slot-test.true in omega arith)) c.loop-slot.invariant c.self.invariant.rise

pub returns-clause-lists : goal.returns-clause-lists
returns-clause-lists c =
    let whole = thinned-whole c.args.value c.loop-slot.slot-index c.self.inside.slots.len c.self.inside.slots.items c.deref_mut-slot-items.result.now c.loop-slot.slot-items c.self.inside.slots.ok.0 c.deref_mut-slot-items.ensures.value c.loop-slot-test.false c.loop-slot.invariant in
    let told = ap (λ names. names.lists) c.self.view_is in
    subst (λ slots. DropsAt c.args.self.now.lists (lists_of slots) c.args.value) (sym whole) (subst (λ lists. DropsAt lists (lists_of (map (slots_without c.args.value) c.self.inside.slots.items)) c.args.value) told (thin-lists c.args.value c.self.inside.slots.items))

pub returns-clause-rise : goal.returns-clause-rise
returns-clause-rise c = all-rise _ _ _ (invariant_of-self c)
