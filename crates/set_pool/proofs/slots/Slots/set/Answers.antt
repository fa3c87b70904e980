use Rattle.std.proofs.Common.{ap, subst}
use Rattle.set_pool.specs.Lists.{AllRise}
use Rattle.set_pool.proofs.SlotLemmas.{all-rise}
use Rattle.set_pool.proofs.slots.Slots.set.Goals as goal

pub returns-clause-rise : goal.returns-clause-rise
returns-clause-rise c = subst AllRise (ap (λ names. names.lists) c.self.view_is) (all-rise _ _ _ c.self.invariant)
