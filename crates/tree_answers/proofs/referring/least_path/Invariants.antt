use Rattle.std.proofs.Common.{◌≡◌, ◌≤◌, drop, length, map}
use Rattle.hac_model.specs.Run.Refusals.{least_path}
use Rattle.hac_model.specs.Tree.{path_of}
use Rattle.tree_answers.proofs.referring.least_path.Given as goal

-- the least of the paths of those that were looked at: the last ones
abbrev pub invariant-entries : goal.invariant-entries
invariant-entries l = (l.left ≤ length l.entries) × (l.least ≡ least_path (map (path_of l.kept.state) (drop l.left l.entries)))

abbrev pub decreases-entries : goal.decreases-entries
decreases-entries l = l.left
