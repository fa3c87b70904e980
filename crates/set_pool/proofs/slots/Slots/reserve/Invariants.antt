use Rattle.std.proofs.Common.{◌≡◌, ◌+◌, length}
use Rattle.set_pool.specs.Lists.{SameLists}
use Rattle.set_pool.proofs.slots.Slots.reserve.Given as goal

abbrev pub invariant-loop : goal.invariant-loop
invariant-loop l = (l.self.free ≡ l.fn.self.free + l.counter) × SameLists l.fn.self.lists l.self.lists × (length l.self.lists ≡ length l.fn.self.lists + l.counter)
