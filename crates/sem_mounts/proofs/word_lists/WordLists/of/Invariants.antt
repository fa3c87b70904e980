use Rattle.std.proofs.Common.{◌≡◌, ◌||◌, ℕ}
use Rattle.hac_model.specs.declared.terms.Term.{Term}
use Rattle.sem_mounts.specs.WordLists.{has_from, is_listed}
use Rattle.sem_mounts.proofs.word_lists.WordLists.of.Given as goal

-- the texts so far, and those that are left
abbrev pub invariant-loop-text : goal.invariant-loop-text
invariant-loop-text l =
    (n : ℕ) (term : Term) →
    (has_from l.number l.text-iterator n term || is_listed l.gathered n term)
    ≡ has_from 0 l.texts.entries n term
