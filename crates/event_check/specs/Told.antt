-- What mounts were told, question by question.
use Rattle.std.specs.Prelude.{ℕ, Bool, true, false, ◌&&◌, List, [], ◌∷◌}
use Rattle.hac_model.specs.Tree.Mounting.{is_told}
use Rattle.hac_model.specs.declared.states.State.{State}
use Rattle.tree_answers.specs.declared.asking.Question.{Question}

-- each question was answered by a list of documents of its mount, and nothing else was told
abbrev pub are_answered : State → List Question → List (List ℕ) → Bool
are_answered s [] [] = true
are_answered s (question ∷ questions) (numbers ∷ told) = is_told s question.mount numbers && are_answered s questions told
are_answered s questions told = false
