use Rattle.std.proofs.Common.{◌≡◌, List, IfOk, ℕ, ap, flat_map, subst, sym, ◌∙◌}
use Rattle.hac_model.specs.declared.snapshots.Document.{Document}
use Rattle.snapshots.specs.Taking.{document_at}
use Rattle.snapshots.proofs.PartLemmas.{same-documents}
use Rattle.snapshots.proofs.TakingLemmas.{documents-told}
use Rattle.snapshots.proofs.taking.documents.Goals as goal

pub returns : goal.returns
returns c =
    let s = c.args.kept.now.state in
    let t = c.tree-tree.result.now.state in
    subst (λ (ds : List Document). IfOk c.documents_among.result (λ documents. documents.items ≡ ds))
    (ap (λ (ns : List ℕ). flat_map (document_at t) ns) c.children.ensures.numbers
    ∙ documents-told t c.args.mount c.know_layout.ensures.layout.numbers
    ∙ sym (same-documents s t c.tree-tree.ensures.tree.bares c.args.mount))
    c.documents_among.ensures
