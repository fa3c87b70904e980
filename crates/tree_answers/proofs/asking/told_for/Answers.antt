use Rattle.std.proofs.Common.{◌≡◌, ℕ, List, length, map, ap, sym, subst, ◌∙◌, IfOk}
use Rattle.hac_model.specs.Run.Asks.{told_to}
use Rattle.tree_answers.specs.Asked.{mount_of}
use Rattle.tree_answers.specs.declared.asking.Question.{Question}
use Rattle.tree_answers.proofs.QuestionLemmas.{asks-even, mounts-told}
use Rattle.tree_answers.proofs.asking.told_for.Goals as goal

pub told_by-requires : goal.told_by-requires
told_by-requires c =
    c.requires ∙ asks-even c.args.kept.now.state c.args.query.now
    ∙ sym (ap (λ (asked : List Question). length asked) (c.as_slice.ensures.value ∙ c.in_ok-questions.ensures))

pub returns : goal.returns
returns c =
    let s = c.args.kept.now.state in
    subst (λ (told : List (List ℕ)). IfOk c.told_by.result (λ documents. documents ≡ told))
    (ap (λ (asked : List Question). told_to s (map mount_of asked) c.args.found.now) (c.as_slice.ensures.value ∙ c.in_ok-questions.ensures)
    ∙ ap (λ (mounts : List ℕ). told_to s mounts c.args.found.now) (mounts-told s c.args.query.now))
    c.told_by.ensures
