use Rattle.std.proofs.Common.{◌≡◌, ◌≤◌, ◌+◌, ◌++◌, drop}
use Rattle.tree_answers.specs.Numbering.{numbers_of}
use Rattle.tree_answers.proofs.numbering.numbers_of.Given as goal

-- the numbers so far, and those of the names that are left, are all
abbrev pub invariant-names : goal.invariant-names
invariant-names l = record { few : l.next ≤ l.first + l.name-index; so_far : l.numbers.items ++ numbers_of l.tree.state.entries l.mount l.next (drop l.name-index l.list) ≡ numbers_of l.tree.state.entries l.mount l.first l.list }
