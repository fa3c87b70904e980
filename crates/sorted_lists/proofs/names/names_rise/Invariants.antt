use Rattle.hac_model.proofs.NameOrderLemmas.{IsChainTo}
use Rattle.sorted_lists.proofs.names.names_rise.Given as goal

-- the names so far rise
abbrev pub invariant-loop-i : goal.invariant-loop-i
invariant-loop-i l = IsChainTo l.names l.i
