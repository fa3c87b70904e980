use Rattle.std.proofs.Common.{◌≡◌, ◌||◌, ℕ, drop}
use Rattle.std.specs.Prelude.{is_some}
use Rattle.hac_model.specs.Tree.{entry_at}
use Rattle.file_tree.specs.Loading.{StandsAlone}
use Rattle.tree_nodes.specs.Nodes.{has_node}
use Rattle.file_tree.proofs.loading.prepare_all.Given as goal

-- the nodes so far, and those of the entries that are left
abbrev pub invariant-loop-entry : goal.invariant-loop-entry
invariant-loop-entry l = record {
  numbers : (q : ℕ) → (has_node l.nodes q || is_some (entry_at (drop l.entry-index l.entries) q)) ≡ (has_node l.initial.nodes q || is_some (entry_at l.entries q));
  alone : (q : ℕ) → StandsAlone l.nodes q;
}
