use Rattle.std.proofs.Common.{◌≡◌}
use Rattle.std.specs.Prelude.{find}
use Rattle.hac_model.specs.Tree.Events.{next_dirty}
use Rattle.file_tree.specs.Answers.{entries_behind, is_dirty_at}
use Rattle.file_tree.proofs.tree.Tree.next_dirty_behind.Given as goal

-- the first dirty one is among those that are left
abbrev pub invariant-loop-number : goal.invariant-loop-number
invariant-loop-number l = next_dirty (entries_behind l.fn.last l.self.state.entries) ≡ find (is_dirty_at l.self.state.entries) l.number-iterator
