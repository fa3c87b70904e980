use Rattle.std.proofs.Common.{rules}
use Rattle.std.proofs.lemmas.List.Sorted.{IsNonDecreasingBy-from_sort_by_key, answers_always}
use Rattle.snapshots.proofs.OrderLemmas.{sorted-by}
use Rattle.snapshots.proofs.restoring.in_order.Goals as goal

pub returns : goal.returns
returns c =
    sorted-by c.args.entries.items c.sort_by_key.new.self.items
    (IsNonDecreasingBy-from_sort_by_key (λ e. e.number) _ c.in_ok-sort_by_key.ensures.sorted (λ a r q k. search rules))
    (c.sort_by_key.ensures.stable (λ e. e.number) (answers_always _ _ _ (λ f a r g h. search rules)))
