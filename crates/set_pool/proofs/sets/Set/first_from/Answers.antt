use Rattle.std.proofs.Common.{ap, subst, sym, ◌∙◌}
use Rattle.set_pool.specs.Rising.{Rises, first_from}
use Rattle.set_pool.proofs.RisingLemmas.{first_from-parts, rises-left, rises-right}
use Rattle.set_pool.proofs.sets.Set.first_from.Goals as goal

pub first_from-requires : goal.first_from-requires
first_from-requires c = rises-left c.self.inside.low c.self.inside.high (subst Rises (sym c.self.view_is) c.requires)

pub first_from-requires-2 : goal.first_from-requires-2
first_from-requires-2 c = rises-right c.self.inside.low c.self.inside.high (subst Rises (sym c.self.view_is) c.requires)

pub returns : goal.returns
returns c =
    c.or.ensures
    ∙ rw (c.first_from.ensures, c.first_from-2.ensures) (sym (first_from-parts c.args.value c.self.inside.low c.self.inside.high))
    ∙ ap (first_from c.args.value) c.self.view_is
