use Rattle.reindex.specs.Steps.{AreIndexed}
use Rattle.reindex.proofs.steps.first_dirty.Given as goal

-- the files of the steps so far
abbrev pub invariant-loop-step : goal.invariant-loop-step
invariant-loop-step l = AreIndexed l.kept.state l._step l.files.items l.last
