use Rattle.std.proofs.Common.{◌≡◌, ◌++◌, drop}
use Rattle.hac_model.specs.Run.Asks.{searches_for}
use Rattle.hac_core.proofs.questions.searches_for.Given as goal

-- the searches so far, and those for the terms to come, are all
abbrev pub invariant-loop-term : goal.invariant-loop-term
invariant-loop-term l = l.searches.items ++ searches_for l.space (drop l.term-index l.terms) ≡ searches_for l.space l.terms
