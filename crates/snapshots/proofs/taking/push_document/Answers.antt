use Rattle.std.proofs.Common.{◌++◌, List, Some, ap, sym, ◌∙◌}
use Rattle.hac_model.specs.declared.snapshots.Document.{Document}
use Rattle.snapshots.proofs.TakingLemmas.{document-one}
use Rattle.snapshots.proofs.taking.push_document.Goals as goal

pub returns-in_ok-push : goal.returns-in_ok-push
returns-in_ok-push c =
    let name = c.name_of.ensures ∙ ap (λ name. Some name) (sym c.in_ok-name.ensures.cases) in
    let kind = sym c.is_document.ensures ∙ c.if-is_document.true in
    c.in_ok-push.ensures.items
    ∙ ap (λ (ds : List Document). c.args.documents.now.items ++ ds)
    (sym (document-one c.args.tree.now.state c.args.number c.in_ok-name.name kind name))
