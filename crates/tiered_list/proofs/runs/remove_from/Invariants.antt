use Rattle.std.proofs.Common.{◌≡◌, ◌+◌, ◌-◌, ◌≤◌, ◌++◌, ◌∷◌, [], length}
use Rattle.std.specs.List.{concat}
use Rattle.tiered_list.specs.Runs.{AreFull}
use Rattle.tiered_list.proofs.RunLemmas.{held}
use Rattle.tiered_list.proofs.runs.remove_from.Given as goal

-- all numbers are there, with the one that is carried in front of the run behind
abbrev pub invariant-loop-next : goal.invariant-loop-next
invariant-loop-next l = record {
  numbers : held l.next l.carried l.runs ≡ concat l.fn.runs ++ l.fn.number ∷ [];
  full : AreFull l.runs;
  same : length l.runs ≡ length l.fn.runs;
  low : l.next ≤ length l.fn.runs;
  high : l.first + 1 ≤ l.next;
}

abbrev pub decreases-loop-next : goal.decreases-loop-next
decreases-loop-next l = l.next - l.first
