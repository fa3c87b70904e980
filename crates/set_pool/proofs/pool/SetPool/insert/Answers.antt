use Rattle.std.proofs.Common.{ap}
use Rattle.set_pool.proofs.PoolLemmas.{backed-insert, joins}
use Rattle.set_pool.proofs.pool.SetPool.insert.Goals as goal

pub invariant_of-self : goal.invariant_of-self
invariant_of-self c = backed-insert c.self.inside.slots c.insert.new.self c.set.inside.0 c.args.value _ _ c.self.inside.spare c.self.inside.granted c.insert.ensures.list c.insert.ensures.free c.insert.ensures.blocks.1 (rw (ap (λ sets. sets.spare) c.self.view_is) c.requires.room) c.self.invariant

pub returns-clause-members : goal.returns-clause-members
returns-clause-members c = rw (← c.self.view_is, ← c.set.view_is) (joins c.args.value c.set.inside.0 c.self.inside.slots.lists c.insert.new.self.lists c.insert.ensures.list)
