use Rattle.std.proofs.Common.{◌≡◌, ◌<◌, ◌≤◌, ◌+◌, ◌-◌, length, ap, refl, sym, subst, ◌∙◌, arith}
use Rattle.std.specs.Prelude.{insert, take}
use Rattle.std.proofs.lemmas.List.{length-set, length-take-le, take-take}
use Rattle.tiered_list.specs.Listed.{Listed}
use Rattle.tiered_list.proofs.EditLemmas.{rotated-inserts}
use Rattle.tiered_list.proofs.tail.Tail.insert.Goals as goal

pub returns-clause-items : goal.returns-clause-items
returns-clause-items c =
    let xs = c.self.inside.numbers.items in
    let count = c.self.inside.count in
    let few : length (take count xs) ≡ count = length-take-le count xs c.self.invariant in
    let low : c.args.place ≤ length (take count xs) = subst (λ (v : Listed). c.args.place ≤ length v.items) (sym c.self.view_is) c.requires.place in
    let spare : 0 < length xs - count = subst (λ (v : Listed). 0 < v.spare) (sym c.self.view_is) c.requires.spare in
    take-take (count + 1) c.self.inside.numbers.len _ (omega (arith, c.deref_mut.ensures.len, ap length c.deref_mut.ensures.value, length-set xs count c.args.number))
    ∙ rotated-inserts xs c.deref_mut.result.now _ c.rotate_right.new.self _ _ count c.args.place c.args.number (omega arith) (omega arith) c.deref_mut.ensures.value refl c.rotate_right.ensures.after
    ∙ ap (λ (v : Listed). insert v.items c.args.place c.args.number) c.self.view_is
