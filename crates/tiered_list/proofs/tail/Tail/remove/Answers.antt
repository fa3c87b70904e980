use Rattle.std.proofs.Common.{◌≡◌, ◌<◌, ◌-◌, length, ap, sym, subst, ◌∙◌, arith}
use Rattle.std.specs.Prelude.{remove, take}
use Rattle.std.proofs.lemmas.List.{length-take-le, take-take}
use Rattle.tiered_list.specs.Listed.{Listed}
use Rattle.tiered_list.proofs.EditLemmas.{rotated-removes}
use Rattle.tiered_list.proofs.tail.Tail.remove.Goals as goal

pub returns-clause-items : goal.returns-clause-items
returns-clause-items c =
    let xs = c.self.inside.numbers.items in
    let count = c.self.inside.count in
    let few : length (take count xs) ≡ count = length-take-le count xs c.self.invariant in
    let inside : c.args.place < length (take count xs) = subst (λ (v : Listed). c.args.place < length v.items) (sym c.self.view_is) c.requires in
    take-take (count - 1) c.self.inside.numbers.len _ (omega (arith, c.deref_mut.ensures.len, ap length c.deref_mut.ensures.value))
    ∙ rotated-removes xs c.deref_mut.result.now _ c.rotate_left.new.self count c.args.place (omega arith) c.self.invariant c.deref_mut.ensures.value c.rotate_left.ensures.after
    ∙ ap (λ (v : Listed). remove v.items c.args.place) c.self.view_is
