use Rattle.std.proofs.Common.{◌≡◌, ◌++◌, length}
use Rattle.snapshots.specs.Taking.{marked_at}
use Rattle.snapshots.proofs.MarkedLemmas.{from_on}
use Rattle.snapshots.proofs.taking.marked.Given as goal

-- the numbers so far, and those that are left
abbrev pub invariant-marks : goal.invariant-marks
invariant-marks l =
    l.numbers.items ++ from_on l.from (marked_at l.kept.state l.dir l.kind) ≡ marked_at l.kept.state l.dir l.kind

-- there are fewer of them each time
abbrev pub decreases-marks : goal.decreases-marks
decreases-marks l = length (from_on l.from (marked_at l.kept.state l.dir l.kind))
