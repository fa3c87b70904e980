use Rattle.std.proofs.Common.{subst, sym}
use Rattle.set_pool.specs.Rising.{Rises}
use Rattle.set_pool.proofs.RisingLemmas.{rises-left, rises-right}
use Rattle.set_pool.proofs.sets.Set.contains.Goals as goal

pub contains-requires : goal.contains-requires
contains-requires c = rises-left c.self.inside.low c.self.inside.high (subst Rises (sym c.self.view_is) c.requires)

pub contains-requires-else-contains : goal.contains-requires-else-contains
contains-requires-else-contains c = rises-right c.self.inside.low c.self.inside.high (subst Rises (sym c.self.view_is) c.requires)
