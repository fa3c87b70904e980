use Rattle.query_index.proofs.NumberLemmas.{ordered-rise, ordered-same}
use Rattle.query_index.proofs.numbers.put_in_order.Goals as goal

pub returns-clause-rise : goal.returns-clause-rise
returns-clause-rise c = ordered-rise _ _ _ c.sort_unstable.ensures.permutation c.sort_unstable.ensures.sorted c.dedup.ensures.filtered

pub returns-clause-same : goal.returns-clause-same
returns-clause-same c = ordered-same _ _ _ c.sort_unstable.ensures.permutation c.sort_unstable.ensures.sorted c.dedup.ensures.filtered
