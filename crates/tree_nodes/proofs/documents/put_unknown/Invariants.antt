use Rattle.std.proofs.Common.{◌≡◌, ◌+◌, ◌<◌, ◌≤◌, ℕ, length}
use Rattle.std.specs.Vec.Iter.{into_iter_items}
use Rattle.hac_model.specs.Tree.Mounting.{documents_from}
use Rattle.tree_nodes.specs.Documents.{unknown, with_entries, with_names}
use Rattle.tree_nodes.specs.Nodes.{entry_of, has_node, kids_of, name_of}
use Rattle.tree_nodes.specs.Search.{first_named}
use Rattle.tree_nodes.proofs.documents.put_unknown.Given as goal

-- the documents so far, and those of the names that are left
abbrev pub invariant-loop-name : goal.invariant-loop-name
invariant-loop-name l = record {
  next : l.next + length (unknown (first_named (name_of l.initial.nodes) l.known) (into_iter_items l.name-iterator))
      ≡ l.fn.first + length (unknown (first_named (name_of l.initial.nodes) l.known) (into_iter_items l.initial.name-iterator));
  ahead : l.fn.first ≤ l.next;
  numbers : (q : ℕ) → has_node l.nodes q ≡ has_node l.initial.nodes q;
  entries : (q : ℕ) → with_entries (documents_from l.next l.mount (unknown (first_named (name_of l.initial.nodes) l.known) (into_iter_items l.name-iterator))) (entry_of l.nodes) q
      ≡ with_entries (documents_from l.fn.first l.mount (unknown (first_named (name_of l.initial.nodes) l.known) (into_iter_items l.initial.name-iterator))) (entry_of l.initial.nodes) q;
  names : (q : ℕ) → with_names (documents_from l.next l.mount (unknown (first_named (name_of l.initial.nodes) l.known) (into_iter_items l.name-iterator))) (name_of l.nodes) q
      ≡ with_names (documents_from l.fn.first l.mount (unknown (first_named (name_of l.initial.nodes) l.known) (into_iter_items l.initial.name-iterator))) (name_of l.initial.nodes) q;
  before : (q : ℕ) → q < l.fn.first → name_of l.nodes q ≡ name_of l.initial.nodes q;
  kids : (q : ℕ) → kids_of l.nodes q ≡ kids_of l.initial.nodes q;
}
