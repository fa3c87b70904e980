use Rattle.std.proofs.Common.{subst, sym}
use Rattle.set_pool.specs.Rising.{Rises}
use Rattle.set_pool.proofs.RisingLemmas.{rises-left, rises-right}
use Rattle.set_pool.proofs.sets.Set.remove.Goals as goal

pub remove-low-requires : goal.remove-low-requires
remove-low-requires c = rises-left c.self.inside.low c.self.inside.high (subst Rises (sym c.self.view_is) c.requires)

pub remove-high-requires : goal.remove-high-requires
remove-high-requires c = rises-right c.self.inside.low c.self.inside.high (subst Rises (sym c.self.view_is) c.requires)
