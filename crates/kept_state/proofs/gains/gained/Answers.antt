use Rattle.std.proofs.Common.{◌≡◌, ◌∙◌, ℕ, List, [], ap, sym}
use Rattle.hac_model.specs.Tree.Asking.{gained, with_answers}
use Rattle.hac_model.specs.declared.states.Answer.{Answer}
use Rattle.kept_facts.specs.Answers.{answers_kept}
use Rattle.kept_state.proofs.GainLemmas.{gained-untold, none-told}
use Rattle.kept_state.proofs.gains.gained.Goals as goal

pub returns-then-is_empty : goal.returns-then-is_empty
returns-then-is_empty c = λ mount.
    let keeps = answers_kept c.args.kept.now.answers in
    let none : c.args.told.now ≡ [] = none-told c.args.told.now (sym c.is_empty.ensures ∙ c.if-is_empty.true) in
    sym (ap (λ (told : List (List ℕ)). with_answers (gained keeps c.args.query.now told c.args.kept.now.tree.state.entries mount) (keeps mount)) none
    ∙ ap (λ (more : List Answer). with_answers more (keeps mount)) (gained-untold keeps c.args.query.now c.args.kept.now.tree.state.entries mount))
