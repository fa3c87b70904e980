use Rattle.std.proofs.Common.{◌≡◌, ◌++◌, ◌∷◌, ◌∙◌, ℕ, [], ap, arith, get_or, subst}
use Rattle.hac_model.specs.declared.states.Answer.{Answer}
use Rattle.hac_model.specs.declared.terms.Term.{Term}
use Rattle.kept_facts.proofs.UseLemmas.{told-next}
use Rattle.kept_facts.proofs.terms.answers_to.Goals as goal

pub told-preserved : goal.told-preserved
told-preserved c =
    let term : Term = c.index-terms-len.result in
    let place = c.told.documents-index in
    let is : term ≡ get_or c.args.terms.now place term = subst (λ (i : ℕ). term ≡ get_or c.args.terms.now i term) (c.len.ensures ∙ c.told.invariant.0) c.index-terms-len.is in
    let answer : c.in_ok-answer.answer ≡ record { term = term; documents = c.documents-item.result } = c.in_ok-answer.ensures ∙ (λ i. record { term = term; documents = c.as_slice.ensures i }) in (
      omega (arith, c.in_ok-push.ensures.len, c.told.invariant.0),
      told-next c.args.terms.now c.args.told.now place c.told.answers.items c.push.new.self.items term c.documents-item.result
          (omega (arith, c.told-test.true, c.requires)) c.told-test.true is c.documents-item.is c.told.invariant.1
          (c.in_ok-push.ensures.items ∙ ap (λ (a : Answer). c.told.answers.items ++ a ∷ []) answer),
    )
