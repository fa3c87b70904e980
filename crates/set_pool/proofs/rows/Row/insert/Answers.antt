use Rattle.std.proofs.Common.{◌<◌, [], ◌∷◌, ap, sym, ◌∙◌, arith, lit<}
use Rattle.std.proofs.lemmas.Bool.{eqb-false, or_parts}
use Rattle.set_pool.proofs.RisingLemmas.{all-weaker, inserted-above, inserted-past}
use Rattle.set_pool.proofs.RowLemmas.{placed}
use Rattle.set_pool.proofs.rows.Row.insert.Goals as goal

pub insert-requires : goal.insert-requires
insert-requires c = (lit< tt, (omega arith, c.requires.room))

pub insert-requires-else-value-self : goal.insert-requires-else-value-self
insert-requires-else-value-self c = (lit< tt, (c.count_below-place.ensures.within, c.requires.room))

pub returns-then-value-self : goal.returns-then-value-self
returns-then-value-self c =
    let rest = c.args.self.now.rest.items in
    let lt : c.args.value < c.args.self.now.first = c.if-value-self.true in
    rw (c.insert.ensures.items, c.replace-first.ensures.after, c.replace-first.ensures.value)
    (sym (inserted-above c.args.value (c.args.self.now.first ∷ rest) (lt, all-weaker (λ z. c.args.self.now.first < z) (λ z. c.args.value < z) (λ z q. omega arith) rest c.requires.rising.0)))

pub returns-else-value-self : goal.returns-else-value-self
returns-else-value-self c =
    let first = c.args.self.now.first in
    let rest = c.args.self.now.rest.items in
    let parts = or_parts _ _ c.requires.absent in
    let lt : first < c.args.value = let ne = eqb-false c.args.value first parts.0 in omega arith in
    ap (λ z. first ∷ z) (rw (c.insert-else-value-self.ensures.items, c.count_below-place.ensures.count) (placed c.args.value rest c.requires.rising.1 parts.1))
    ∙ sym (inserted-past c.args.value (first ∷ []) rest (lt, tt))
