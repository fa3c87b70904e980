use Rattle.sorted_lists.proofs.NeighbourLemmas.{IsRowTo}
use Rattle.sorted_lists.proofs.numbers.numbers_rise.Given as goal

-- the numbers so far rise
abbrev pub invariant-loop-i : goal.invariant-loop-i
invariant-loop-i l = IsRowTo l.numbers l.i
