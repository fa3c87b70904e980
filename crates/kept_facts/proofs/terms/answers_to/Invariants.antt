use Rattle.std.proofs.Common.{◌≡◌, ◌++◌, drop, vec_len}
use Rattle.hac_model.specs.Tree.Mounting.{answers_to}
use Rattle.kept_facts.proofs.terms.answers_to.Given as goal

-- the answers so far, and those to come, are all
abbrev pub invariant-told : goal.invariant-told
invariant-told l =
    (vec_len l.answers ≡ l.documents-index)
    × (l.answers.items ++ answers_to (drop l.documents-index l.terms) (drop l.documents-index l.told) ≡ answers_to l.terms l.told)
