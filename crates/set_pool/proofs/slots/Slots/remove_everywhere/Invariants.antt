use Rattle.set_pool.proofs.ThinLemmas.{Thinned}
use Rattle.set_pool.proofs.slots.Slots.remove_everywhere.Given as goal

abbrev pub invariant-loop-slot : goal.invariant-loop-slot
invariant-loop-slot l = Thinned l.value l.initial.slot-items l.slot-items l.slot-index
