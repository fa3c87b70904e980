use Rattle.std.proofs.Common.{◌≡◌, drop}
use Rattle.tree_answers.specs.Asked.{was_told}
use Rattle.tree_answers.proofs.telling.was_told.Given as goal

-- what is told is told by the questions to come
abbrev pub invariant-places : goal.invariant-places
invariant-places l = was_told (drop l.place l.questions) (drop l.place l.documents) l.mount l.term l.item ≡ was_told l.questions l.documents l.mount l.term l.item
