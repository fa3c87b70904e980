use Rattle.std.proofs.Common.{sym, ◌∙◌, arith}
use Rattle.sorted_lists.proofs.NeighbourLemmas.{rises-row, row-breaks, row-more}
use Rattle.sorted_lists.proofs.numbers.numbers_rise.Goals as goal

pub loop-i-preserved : goal.loop-i-preserved
loop-i-preserved c =
    row-more c.args.numbers.now c.loop-i.i c.index-numbers-i-in-loop-i.result c.index-numbers-i.result c.loop-i.auto.i c.loop-i-test.true c.index-numbers-i-in-loop-i.is c.index-numbers-i.is
    (sym c.le.ensures ∙ c.if-le.false) c.loop-i.invariant

pub returns-then-le : goal.returns-then-le
returns-then-le c =
    sym (row-breaks c.args.numbers.now c.loop-i.i c.index-numbers-i-in-loop-i.result c.index-numbers-i.result c.loop-i.auto.i c.loop-i-test.true c.index-numbers-i-in-loop-i.is c.index-numbers-i.is
    (sym c.le.ensures ∙ c.if-le.true))

pub returns : goal.returns
returns c = sym (rises-row c.args.numbers.now (λ k inside. c.loop-i.invariant k (omega (arith, inside, c.loop-i-test.false))))
