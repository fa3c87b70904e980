use Rattle.std.proofs.Common.{[], ap, subst, sym, ◌∙◌}
use Rattle.std.specs.Bool.{IsTrue}
use Rattle.std.proofs.lemmas.List.{get_or_read}
use Rattle.set_pool.specs.Lists.{is_live_at}
use Rattle.set_pool.specs.Rising.{removed}
use Rattle.set_pool.specs.declared.slots.Slot.TheVariants.{Live}
use Rattle.set_pool.proofs.RisingLemmas.{rises-removed}
use Rattle.set_pool.proofs.SlotLemmas.{all-rise, kept, live-within, put}
use Rattle.set_pool.proofs.slots.Slots.remove.Goals as goal

pub invariant_of-self : goal.invariant_of-self
invariant_of-self c =
    let xs = c.self.inside.slots.items in
    let told = ap (λ names. names.lists) c.self.view_is in
    let within = live-within xs c.args.name (subst (λ lists. IsTrue (is_live_at lists c.args.name)) (sym told) c.requires) in
    let slot = sym (get_or_read xs c.args.name c.index_mut.result.now within c.index_mut.ensures.value (Live [])) ∙ c.in-Live.is in
    kept xs c.args.name c.self.inside.top c.self.inside.free c.in-Live.set c.remove.new.self within slot (λ rises. rw c.remove.ensures.list (rises-removed c.args.value c.in-Live.set rises)) c.self.invariant

pub returns-clause-list : goal.returns-clause-list
returns-clause-list c =
    let xs = c.self.inside.slots.items in
    let told = ap (λ names. names.lists) c.self.view_is in
    let within = live-within xs c.args.name (subst (λ lists. IsTrue (is_live_at lists c.args.name)) (sym told) c.requires) in
    let slot = sym (get_or_read xs c.args.name c.index_mut.result.now within c.index_mut.ensures.value (Live [])) ∙ c.in-Live.is in
    put xs c.args.name c.in-Live.set c.remove.new.self (removed c.args.value) c.args.self.now.lists told within slot c.remove.ensures.list

pub returns-clause-rise : goal.returns-clause-rise
returns-clause-rise c = all-rise _ _ _ (invariant_of-self c)
