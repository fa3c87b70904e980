use Rattle.std.proofs.Common.{◌≡◌, ℕ, ◌<◌, ◌≤◌}
use Rattle.std.specs.Prelude.{IsTrue}
use Rattle.tree_nodes.specs.Nodes.{entry_of, has_node, kids_of, name_of}
use Rattle.tree_nodes.proofs.documents.prepare_nodes.Given as goal

-- the nodes so far
abbrev pub invariant-loop-number : goal.invariant-loop-number
invariant-loop-number l = record {
  there : (q : ℕ) → l.fn.first ≤ q → q < l.number → IsTrue (has_node l.nodes q);
  others : (q : ℕ) → q < l.fn.first → has_node l.nodes q ≡ has_node l.initial.nodes q;
  few : (q : ℕ) → l.fn.end ≤ q → has_node l.nodes q ≡ has_node l.initial.nodes q;
  entries : (q : ℕ) → entry_of l.nodes q ≡ entry_of l.initial.nodes q;
  names : (q : ℕ) → q < l.fn.first → name_of l.nodes q ≡ name_of l.initial.nodes q;
  kids : (q : ℕ) → kids_of l.nodes q ≡ kids_of l.initial.nodes q;
}
