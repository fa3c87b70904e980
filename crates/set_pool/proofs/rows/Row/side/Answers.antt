use Rattle.std.proofs.Common.{arith}
use Rattle.std.proofs.lemmas.Bool.{le-leb, or_left}
use Rattle.set_pool.specs.Rows.{members}
use Rattle.set_pool.proofs.RowLemmas.{below-last, reaches-last}
use Rattle.set_pool.proofs.rows.Row.side.Goals as goal

pub returns-then-last-value : goal.returns-then-last-value
returns-then-last-value c = below-last c.args.value c.last.result (members c.args.self.now) c.last.ensures.0 c.last.ensures.1 c.requires c.if-last-value.true

pub returns-else-last-value : goal.returns-else-last-value
returns-else-last-value c =
    (or_left _ _ (le-leb c.args.self.now.first c.args.value (omega arith)), reaches-last c.args.value c.last.result (members c.args.self.now) c.last.ensures.0 c.last.ensures.1 (omega arith))
