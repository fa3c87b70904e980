use Rattle.set_pool.proofs.PoolLemmas.{backed-thin}
use Rattle.set_pool.proofs.pool.SetPool.remove_everywhere.Goals as goal

pub invariant_of-self : goal.invariant_of-self
invariant_of-self c = backed-thin c.self.inside.slots c.remove_everywhere.new.self c.args.value _ c.self.inside.spare c.self.inside.granted c.remove_everywhere.ensures.lists c.remove_everywhere.ensures.free c.self.invariant
