use Rattle.std.proofs.Common.{◌≡◌, ◌+◌, length}
use Rattle.std.specs.Prelude.{sum_by}
use Rattle.link_kinds.specs.Kinds.{items_of}
use Rattle.link_kinds.specs.Seen.{lists_in}
use Rattle.tree_answers.specs.Counting.{link_count}
use Rattle.tree_answers.proofs.lines_of_counts.link_count.Given as goal

-- the sum of those so far, and of those to come, is that of all
abbrev pub invariant-loop-number : goal.invariant-loop-number
invariant-loop-number l = l.sum + sum_by (λ dir. length (items_of l.kind (lists_in l.links dir))) l.number-iterator.rest.items ≡ link_count l.kind l.kept.state l.links
