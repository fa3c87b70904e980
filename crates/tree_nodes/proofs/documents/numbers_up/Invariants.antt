use Rattle.std.proofs.Common.{◌≡◌}
use Rattle.tree_nodes.specs.Documents.{numbers_up}
use Rattle.tree_nodes.proofs.documents.numbers_up.Given as goal

-- the numbers so far
abbrev pub invariant-loop-place : goal.invariant-loop-place
invariant-loop-place l = l.numbers.items ≡ numbers_up l.fn.first l.place
