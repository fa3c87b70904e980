use Rattle.std.proofs.Common.{None, ap, set, subst, sym}
use Rattle.std.specs.Bool.{IsTrue}
use Rattle.set_pool.specs.Lists.{ChangesAt, is_live_at}
use Rattle.set_pool.specs.Slots.{lists_of}
use Rattle.set_pool.specs.declared.slots.Slot.TheVariants.{Free}
use Rattle.set_pool.proofs.SlotLemmas.{all-rise, changes, live-slot, live-within, pushed}
use Rattle.set_pool.proofs.slots.Slots.free.Goals as goal

pub invariant_of-self : goal.invariant_of-self
invariant_of-self c =
    let told = ap (λ names. names.lists) c.self.view_is in
    let live = subst (λ lists. IsTrue (is_live_at lists c.args.name)) (sym told) c.requires in
    let within = live-within c.self.inside.slots.items c.args.name live in
    let slot = live-slot c.self.inside.slots.items c.args.name live in
    pushed c.self.inside.slots.items c.args.name c.self.inside.top c.self.inside.free slot.0 within slot.1 c.self.invariant

pub returns-clause-freed : goal.returns-clause-freed
returns-clause-freed c =
    let told = ap (λ names. names.lists) c.self.view_is in
    let live = subst (λ lists. IsTrue (is_live_at lists c.args.name)) (sym told) c.requires in
    let within = live-within c.self.inside.slots.items c.args.name live in
    let slot = Free c.self.inside.top c.self.inside.free in
    subst (λ lists. ChangesAt lists (lists_of (set c.self.inside.slots.items c.args.name slot)) c.args.name None) told (changes c.self.inside.slots.items c.args.name slot within)

pub returns-clause-rise : goal.returns-clause-rise
returns-clause-rise c = all-rise _ _ _ (invariant_of-self c)
