use Rattle.std.proofs.Common.{◌≡◌, ◌+◌, ◌≤◌, length, drop}
use Rattle.hac_model.specs.Tree.Mounting.{fresh}
use Rattle.file_tree.proofs.tree.Tree.count_fresh.Given as goal

-- the names so far, and those that are left
abbrev pub invariant-loop-name : goal.invariant-loop-name
invariant-loop-name l = record {
  count : l.count + length (fresh l.self.state l.dir (drop l.name-index l.names)) ≡ length (fresh l.self.state l.dir l.names);
  few : l.count ≤ l.name-index;
}
