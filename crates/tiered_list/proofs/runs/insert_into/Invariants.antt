use Rattle.std.proofs.Common.{◌≡◌, length}
use Rattle.std.specs.Prelude.{insert}
use Rattle.std.specs.List.{concat}
use Rattle.tiered_list.specs.Runs.{AreFull}
use Rattle.tiered_list.proofs.RunLemmas.{held}
use Rattle.tiered_list.proofs.runs.insert_into.Given as goal

-- the number is inserted, with the one that is carried in front of the next run
abbrev pub invariant-loop-next : goal.invariant-loop-next
invariant-loop-next l = record {
  numbers : held l.next l.carried l.runs ≡ insert (concat l.fn.runs) l.fn.place l.fn.number;
  full : AreFull l.runs;
  same : length l.runs ≡ length l.fn.runs;
}
