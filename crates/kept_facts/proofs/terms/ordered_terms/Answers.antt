use Rattle.std.proofs.Common.{◌≡◌, ◌∙◌, ◌++◌, List, ap, subst}
use Rattle.std.specs.Prelude.{IfOk}
use Rattle.hac_model.specs.Query.Queries.{terms_of}
use Rattle.hac_model.specs.Tree.Mounts.{terms_in_order}
use Rattle.hac_model.specs.declared.terms.Term.{Term}
use Rattle.kept_facts.proofs.terms.ordered_terms.Goals as goal

pub returns : goal.returns
returns c =
    subst (λ (terms : List Term). IfOk c.terms_in_order.result (λ ordered. ordered.items ≡ terms_in_order terms))
    (c.in_ok-push_terms.ensures ∙ ap (λ terms. terms ++ terms_of c.args.query.now) c.new-terms.ensures.items) c.terms_in_order.ensures
