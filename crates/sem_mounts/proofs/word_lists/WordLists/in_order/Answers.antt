-- The sort moves lists, and leaves them in the order of their words.
use Rattle.std.proofs.Common.{List, ℕ, rules}
use Rattle.std.specs.Cmp.Lexicographic.{slice_cmp}
use Rattle.std.specs.Ordering.{is_lt, nat_cmp}
use Rattle.std.proofs.lemmas.List.Sorted.{answers_always}
use Rattle.sem_mounts.proofs.OrderLemmas.{by_word, same-listed}
use Rattle.sem_mounts.proofs.word_lists.WordLists.in_order.Goals as goal

pub invariant_of-result : goal.invariant_of-result
invariant_of-result c =
    c.sort_unstable_by.ensures.sorted (λ (list other : List ℕ × List ℕ).
    is_lt (slice_cmp nat_cmp list.0 other.0)) by_word
    (answers_always _ _ _ (λ f a r g k. search rules))

pub returns : goal.returns
returns c = λ n term.
    same-listed n term c.args.lists.items c.sort_unstable_by.new.self.items
    c.sort_unstable_by.ensures.permutation
