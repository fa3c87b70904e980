use Rattle.std.proofs.Common.{◌≡◌, ◌≤◌, ◌++◌}
use Rattle.std.specs.Prelude.{◌-◌}
use Rattle.std.specs.List.{range_with_len}
use Rattle.file_tree.specs.Answers.{numbers_of}
use Rattle.kept_links.proofs.transition.Transition.numbers_around.Given as goal

-- the numbers so far
abbrev pub invariant-loop-number : goal.invariant-loop-number
invariant-loop-number l = (l.self.before.now.state.next ≤ l.number) × (l.numbers.items ≡ numbers_of l.self.before.now.state.entries ++ range_with_len l.self.before.now.state.next (l.number - l.self.before.now.state.next))
