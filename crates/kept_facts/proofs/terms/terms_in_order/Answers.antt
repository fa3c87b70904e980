use Rattle.std.proofs.Common.{List, None, subst, sym}
use Rattle.hac_model.specs.declared.terms.Term.{Term}
use Rattle.kept_facts.specs.Answers.{AreTermsInOrder}
use Rattle.kept_facts.proofs.UseLemmas.{in-order}
use Rattle.kept_facts.proofs.terms.terms_in_order.Goals as goal

pub put_term-requires : goal.put_term-requires
put_term-requires c = subst (λ (ts : List Term). AreTermsInOrder None ts) (sym c.terms.invariant.order) (in-order c.terms.invariant.done)
