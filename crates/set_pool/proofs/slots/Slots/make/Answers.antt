use Rattle.std.proofs.Common.{◌≡◌, ◌<◌, Some, [], arith, ap, set, subst, sym, ◌∙◌}
use Rattle.std.specs.Option.{is_some}
use Rattle.std.proofs.lemmas.List.{get_or_read}
use Rattle.set_pool.specs.Lists.{ChangesAt, is_live_at}
use Rattle.set_pool.specs.Slots.{IsStacked, link_of, list_of_slot, lists_of}
use Rattle.set_pool.specs.declared.slots.Slot.TheVariants.{Live}
use Rattle.set_pool.proofs.SlotLemmas.{all-rise, changes, free-within, list_at-slot, popped, top-free}
use Rattle.set_pool.proofs.slots.Slots.make.Goals as goal

pub index-requires : goal.index-requires
index-requires c =
    let xs = c.self.inside.slots.items in
    let top = c.self.inside.top in
    let told = ap (λ names. names.free) c.self.view_is in
    let some : 0 < c.self.inside.free = rw told c.requires in
    let f = top-free xs top c.self.inside.free c.self.invariant some in
    let within = free-within xs top f.0 f.1 f.2 in
    rw c.self.inside.slots.ok.0 within

pub index_mut-requires : goal.index_mut-requires
index_mut-requires c =
    let xs = c.self.inside.slots.items in
    let top = c.self.inside.top in
    let told = ap (λ names. names.free) c.self.view_is in
    let some : 0 < c.self.inside.free = rw told c.requires in
    let f = top-free xs top c.self.inside.free c.self.invariant some in
    let within = free-within xs top f.0 f.1 f.2 in
    rw c.self.inside.slots.ok.0 within

pub invariant_of-self : goal.invariant_of-self
invariant_of-self c =
    let xs = c.self.inside.slots.items in
    let top = c.self.inside.top in
    let told = ap (λ names. names.free) c.self.view_is in
    let some : 0 < c.self.inside.free = rw told c.requires in
    let f = top-free xs top c.self.inside.free c.self.invariant some in
    let within = free-within xs top f.0 f.1 f.2 in
    let link : c.link-below.result ≡ (f.0, f.1) = c.link-below.ensures ∙ ap link_of (get_or_read xs top c.index.result.now within c.index.ensures (Live []) ∙ f.2) in
    rw (c.new.ensures, link) (popped xs top f.0 f.1 f.2 (subst (IsStacked xs top) f.3 c.self.invariant))

pub returns-clause-fresh : goal.returns-clause-fresh
returns-clause-fresh c =
    let xs = c.self.inside.slots.items in
    let top = c.self.inside.top in
    let told = ap (λ names. names.free) c.self.view_is in
    let some : 0 < c.self.inside.free = rw told c.requires in
    let f = top-free xs top c.self.inside.free c.self.invariant some in
    let within = free-within xs top f.0 f.1 f.2 in
    let lists = ap (λ names. names.lists) c.self.view_is in
    ap (λ ls. is_live_at ls top) (sym lists) ∙ ap is_some (list_at-slot xs top within ∙ ap list_of_slot f.2)

pub returns-clause-made : goal.returns-clause-made
returns-clause-made c =
    let xs = c.self.inside.slots.items in
    let top = c.self.inside.top in
    let told = ap (λ names. names.free) c.self.view_is in
    let some : 0 < c.self.inside.free = rw told c.requires in
    let f = top-free xs top c.self.inside.free c.self.invariant some in
    let within = free-within xs top f.0 f.1 f.2 in
    let lists = ap (λ names. names.lists) c.self.view_is in
    rw c.new.ensures (subst (λ ls. ChangesAt ls (lists_of (set xs top (Live []))) top (Some [])) lists (changes xs top (Live []) within))

pub returns-clause-free : goal.returns-clause-free
returns-clause-free c =
    let xs = c.self.inside.slots.items in
    let top = c.self.inside.top in
    let told = ap (λ names. names.free) c.self.view_is in
    let some : 0 < c.self.inside.free = rw told c.requires in
    let f = top-free xs top c.self.inside.free c.self.invariant some in
    let within = free-within xs top f.0 f.1 f.2 in
    let link : c.link-below.result ≡ (f.0, f.1) = c.link-below.ensures ∙ ap link_of (get_or_read xs top c.index.result.now within c.index.ensures (Live []) ∙ f.2) in
    let more = f.3 in
    rw link (omega arith)

pub returns-clause-rise : goal.returns-clause-rise
returns-clause-rise c = all-rise _ _ _ (invariant_of-self c)
