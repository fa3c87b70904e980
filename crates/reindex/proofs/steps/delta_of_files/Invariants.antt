use Rattle.std.specs.Prelude.{◌≤◌, ◌+◌, ◌*◌, drop, length, take}
use Rattle.hac_model.specs.Tree.Costs.{weight}
use Rattle.reindex.specs.Ahead.{state_before, state_behind}
use Rattle.reindex.specs.Steps.{AreSettled}
use Rattle.reindex.proofs.steps.delta_of_files.Given as goal

-- the files so far are settled, and those that are left may still be judged
abbrev pub invariant-loop-file : goal.invariant-loop-file
invariant-loop-file g l =
    AreSettled (state_before l.ahead) (state_behind l.ahead) (take l.file-index l.files) l.delta.items
    × (l.probes + length (drop l.file-index l.files) * weight (state_before l.ahead)
    ≤ l.fn.probes + length l.files * weight (state_before l.ahead))
