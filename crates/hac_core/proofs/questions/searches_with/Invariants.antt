use Rattle.std.proofs.Common.{◌≡◌, ◌++◌, drop}
use Rattle.hac_core.specs.Questions.{searches_with}
use Rattle.hac_core.proofs.questions.searches_with.Given as goal

-- the searches so far, and those of the questions to come, are all
abbrev pub invariant-loop-question : goal.invariant-loop-question
invariant-loop-question l = l.searches.items ++ searches_with l.kept.state (drop l.question-index l.questions) ≡ searches_with l.kept.state l.questions
