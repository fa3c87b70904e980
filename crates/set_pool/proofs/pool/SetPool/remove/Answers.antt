use Rattle.set_pool.proofs.PoolLemmas.{backed-remove, leaves}
use Rattle.set_pool.proofs.pool.SetPool.remove.Goals as goal

pub invariant_of-self : goal.invariant_of-self
invariant_of-self c = backed-remove c.self.inside.slots c.remove.new.self c.set.inside.0 c.args.value _ c.self.inside.spare c.self.inside.granted c.remove.ensures.list c.remove.ensures.free c.self.invariant

pub returns-clause-members : goal.returns-clause-members
returns-clause-members c = rw (← c.self.view_is, ← c.set.view_is) (leaves c.args.value c.set.inside.0 c.self.inside.slots.lists c.remove.new.self.lists c.remove.ensures.list)
