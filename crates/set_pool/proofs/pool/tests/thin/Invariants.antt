use Rattle.std.specs.Bool.{IsTrue}
use Rattle.set_pool.specs.Sets.{is_live}
use Rattle.set_pool.proofs.pool.tests.thin.Given as goal

abbrev pub invariant-loop-i : goal.invariant-loop-i
invariant-loop-i l = IsTrue (is_live l.pool l.set)
