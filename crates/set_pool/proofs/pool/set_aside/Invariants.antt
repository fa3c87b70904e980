use Rattle.std.proofs.Common.{◌≡◌, ◌+◌, vec_len}
use Rattle.set_pool.proofs.pool.set_aside.Given as goal

abbrev pub invariant-loop : goal.invariant-loop
invariant-loop l = vec_len l.blocks ≡ vec_len l.fn.blocks + l.counter
