use Rattle.std.proofs.Common.{[], ◌∷◌, ap}
use Rattle.set_pool.proofs.RowLemmas.{ends, nothing_last}
use Rattle.set_pool.proofs.rows.Row.last.Goals as goal

pub returns-in-Some : goal.returns-in-Some
returns-in-Some c = ends c.args.self.now.first c.args.self.now.rest.items c.in-Some.last.now (rw c.as_slice.ensures.value at c.in-Some.ensures.value)

pub returns-in-None : goal.returns-in-None
returns-in-None c = ([], ap (λ rest. c.args.self.now.first ∷ rest) (nothing_last c.args.self.now.rest.items (rw c.as_slice.ensures.value at c.in-None.ensures.value)))
