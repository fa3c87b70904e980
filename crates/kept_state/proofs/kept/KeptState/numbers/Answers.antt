use Rattle.std.proofs.Common.{IfOk, List, ℕ, subst, sym, ◌≡◌, ◌∙◌, ap}
use Rattle.hac_model.specs.declared.states.State.{State}
use Rattle.file_tree.specs.Answers.{numbers_of}
use Rattle.kept_state.proofs.StateLemmas.{same-numbers}
use Rattle.kept_state.proofs.kept.KeptState.numbers.Goals as goal

pub returns : goal.returns
returns c =
    subst (λ (ns : List ℕ). IfOk c.numbers.result (λ numbers. numbers.items ≡ ns))
    (sym (same-numbers c.tree.result.now.state) ∙ ap (λ (s : State). numbers_of s.entries) (sym c.tree.ensures.tree.bares) ∙ same-numbers c.args.self.now.state)
    c.numbers.ensures.numbers
