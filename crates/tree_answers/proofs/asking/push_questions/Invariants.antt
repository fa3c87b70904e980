use Rattle.std.proofs.Common.{◌≡◌, ◌++◌, drop}
use Rattle.tree_answers.specs.Asked.{questions_about}
use Rattle.tree_answers.proofs.asking.push_questions.Given as goal

-- the questions so far, and those about the terms to come, are all
abbrev pub invariant-loop-term : goal.invariant-loop-term
invariant-loop-term l = l.questions.items ++ questions_about l.kept.state l.mount (drop l.term-index l.terms) ≡ l.initial.questions.items ++ questions_about l.kept.state l.mount l.terms
