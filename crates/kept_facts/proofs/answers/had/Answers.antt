use Rattle.std.proofs.Common.{◌≡◌, ℕ, List, Some, [], ap, sym, ◌∙◌}
use Rattle.std.specs.Prelude.{Option, unwrap_or}
use Rattle.std.specs.Option.{option_copied}
use Rattle.hac_model.specs.Tree.Links.{has}
use Rattle.hac_model.specs.Tree.Mounts.{kept_for}
use Rattle.kept_facts.proofs.OrderLemmas.{found-rise}
use Rattle.kept_facts.proofs.answers.had.Goals as goal

pub returns-in-Some : goal.returns-in-Some
returns-in-Some c = λ order.
    let list = c.args.answers.now in
    let found : kept_for list c.args.term.now ≡ Some c.in-Some.documents.now = sym (c.documents_for.ensures order.terms) ∙ ap (λ o. option_copied o) c.in-Some.is in
    c.has_number.ensures (found-rise list c.args.term.now c.in-Some.documents.now order.documents found)
    ∙ ap (λ (o : Option (List ℕ)). has (unwrap_or o []) c.args.document) (sym found)
