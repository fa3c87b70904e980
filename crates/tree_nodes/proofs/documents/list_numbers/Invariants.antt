use Rattle.std.proofs.Common.{◌≡◌, ◌+◌, ◌≤◌, ◌++◌, length, drop}
use Rattle.tree_nodes.specs.Documents.{numbers_from, unknown}
use Rattle.tree_nodes.specs.Nodes.{name_of}
use Rattle.tree_nodes.specs.Search.{first_named}
use Rattle.tree_nodes.proofs.documents.list_numbers.Given as goal

-- the numbers so far, and those of the names that are left
abbrev pub invariant-loop-name : goal.invariant-loop-name
invariant-loop-name l = record {
  numbers : l.numbers.items ++ numbers_from (first_named (name_of l.nodes) l.known) l.next (drop l.name-index l.names)
      ≡ l.initial.numbers.items ++ numbers_from (first_named (name_of l.nodes) l.known) l.fn.first l.names;
  next : l.next + length (unknown (first_named (name_of l.nodes) l.known) (drop l.name-index l.names))
      ≡ l.fn.first + length (unknown (first_named (name_of l.nodes) l.known) l.names);
  few : l.next ≤ l.fn.first + l.name-index;
}
