use Rattle.std.proofs.Common.{◌≡◌, ℕ, [], false, None, take, cond}
use Rattle.tree_nodes.specs.Documents.{is_dropped}
use Rattle.tree_nodes.specs.Nodes.{entry_of, has_node, kids_of, name_of}
use Rattle.tree_nodes.proofs.documents.take_dropped.Given as goal

-- the numbers so far
abbrev pub invariant-loop-place : goal.invariant-loop-place
invariant-loop-place l = record {
  numbers : (q : ℕ) → has_node l.nodes q ≡ cond (is_dropped (name_of l.initial.nodes) (take l.place l.numbers) l.kept q) false (has_node l.initial.nodes q);
  entries : (q : ℕ) → entry_of l.nodes q ≡ cond (is_dropped (name_of l.initial.nodes) (take l.place l.numbers) l.kept q) None (entry_of l.initial.nodes q);
  names : (q : ℕ) → is_dropped (name_of l.initial.nodes) (take l.place l.numbers) l.kept q ≡ false → name_of l.nodes q ≡ name_of l.initial.nodes q;
  kids : (q : ℕ) → kids_of l.nodes q ≡ cond (is_dropped (name_of l.initial.nodes) (take l.place l.numbers) l.kept q) [] (kids_of l.initial.nodes q);
}
