use Rattle.set_pool.proofs.SlotLemmas.{added}
use Rattle.set_pool.proofs.slots.Slots.add.Goals as goal

pub invariant_of-self-2 : goal.invariant_of-self-2
invariant_of-self-2 c = rw (c.in_ok-push.ensures.items, c.len-name.ensures, c.self.inside.slots.ok.0) (added c.self.inside.slots.items c.self.inside.top c.self.inside.free c.self.invariant)
