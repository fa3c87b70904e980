use Rattle.std.proofs.Common.{ℕ, List, [], ◌++◌, ap, not, subst, sym, ◌∙◌}
use Rattle.set_pool.specs.Rising.{Rises, inserted, is_among}
use Rattle.set_pool.proofs.RisingLemmas.{inserted-before, inserted-past, is_among-amid, is_among-past, rises-left, rises-right}
use Rattle.set_pool.proofs.sets.Set.put.Goals as goal

pub comes_behind-requires : goal.comes_behind-requires
comes_behind-requires c = subst Rises (sym c.self.view_is) c.requires.rising

pub insert-requires-clause-rising : goal.insert-requires-clause-rising
insert-requires-clause-rising c = rises-right c.self.inside.low c.self.inside.high (subst Rises (sym c.self.view_is) c.requires.rising)

pub insert-requires-else-comes_behind-clause-rising : goal.insert-requires-else-comes_behind-clause-rising
insert-requires-else-comes_behind-clause-rising c = rises-left c.self.inside.low c.self.inside.high (subst Rises (sym c.self.view_is) c.requires.rising)

pub returns-then-comes_behind-clause-list : goal.returns-then-comes_behind-clause-list
returns-then-comes_behind-clause-list c =
    ap (λ (ns : List ℕ). c.self.inside.low ++ ns) c.insert.ensures.list
    ∙ sym (inserted-past c.args.value c.self.inside.low c.self.inside.high (c.comes_behind.ensures.above c.if-comes_behind.true))
    ∙ ap (inserted c.args.value) c.self.view_is

pub returns-then-comes_behind-clause-fresh : goal.returns-then-comes_behind-clause-fresh
returns-then-comes_behind-clause-fresh c =
    c.insert.ensures.fresh
    ∙ ap not (sym (is_among-past c.args.value c.self.inside.low c.self.inside.high (c.comes_behind.ensures.above c.if-comes_behind.true)) ∙ ap (is_among c.args.value) c.self.view_is)

pub returns-else-comes_behind-clause-list : goal.returns-else-comes_behind-clause-list
returns-else-comes_behind-clause-list c =
    ap (λ (ns : List ℕ). ns ++ c.self.inside.high) c.insert-else-comes_behind.ensures.list
    ∙ sym (inserted-before c.args.value c.self.inside.low c.self.inside.high (c.comes_behind.ensures.below c.if-comes_behind.false))
    ∙ ap (inserted c.args.value) c.self.view_is

pub returns-else-comes_behind-clause-fresh : goal.returns-else-comes_behind-clause-fresh
returns-else-comes_behind-clause-fresh c =
    c.insert-else-comes_behind.ensures.fresh
    ∙ ap not (sym (is_among-amid c.args.value [] c.self.inside.low c.self.inside.high tt (c.comes_behind.ensures.below c.if-comes_behind.false)) ∙ ap (is_among c.args.value) c.self.view_is)
