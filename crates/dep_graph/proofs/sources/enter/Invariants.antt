use Rattle.std.proofs.Common.{◌≡◌}
use Rattle.std.specs.Prelude.{drop}
use Rattle.dep_graph.specs.Steps.{entering}
use Rattle.dep_graph.proofs.sources.enter.Given as goal

-- what comes after is the same as at first
abbrev pub invariant-loop-number : goal.invariant-loop-number
invariant-loop-number l = entering (drop l.number-index l.numbers) l.stack ≡ entering l.fn.numbers l.fn.stack
