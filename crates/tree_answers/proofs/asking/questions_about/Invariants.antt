use Rattle.std.proofs.Common.{◌≡◌, ◌++◌}
use Rattle.std.specs.List.{flat_map}
use Rattle.file_tree.specs.Answers.{numbers_of}
use Rattle.tree_answers.specs.Asked.{questions_at}
use Rattle.tree_answers.proofs.asking.questions_about.Given as goal

-- the questions so far, and those to the entries to come, are all
abbrev pub invariant-loop-number : goal.invariant-loop-number
invariant-loop-number l = l.questions.items ++ flat_map (questions_at l.kept.state l.terms) l.number-iterator.rest.items ≡ flat_map (questions_at l.kept.state l.terms) (numbers_of l.kept.state.entries)
