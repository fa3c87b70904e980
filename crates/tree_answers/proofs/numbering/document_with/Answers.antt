use Rattle.std.proofs.Common.{ap, cond, sym, ◌∙◌, Bool, None, Some}
use Rattle.tree_answers.proofs.NumberingLemmas.{document-child, document-none}
use Rattle.tree_answers.proofs.numbering.document_with.Goals as goal

pub returns-in_err-number : goal.returns-in_err-number
returns-in_err-number c = c.from_residual.ensures ∙ sym (document-none c.args.tree.now.state.entries c.args.mount c.args.name.now (sym c.child.ensures ∙ c.in_err-number.was))

pub returns-then-is_document : goal.returns-then-is_document
returns-then-is_document c =
    let s = c.args.tree.now.state in
    sym (document-child 0 s.entries s.next c.args.mount c.in_ok-number.number c.args.name.now c.know_layout.ensures.layout.numbers c.know_layout.ensures.layout.differ (sym c.child.ensures ∙ c.in_ok-number.was)
    ∙ ap (λ (b : Bool). cond b (Some c.in_ok-number.number) None) (sym c.is_document.ensures ∙ c.if-is_document.true))

pub returns-else-is_document : goal.returns-else-is_document
returns-else-is_document c =
    let s = c.args.tree.now.state in
    sym (document-child 0 s.entries s.next c.args.mount c.in_ok-number.number c.args.name.now c.know_layout.ensures.layout.numbers c.know_layout.ensures.layout.differ (sym c.child.ensures ∙ c.in_ok-number.was)
    ∙ ap (λ (b : Bool). cond b (Some c.in_ok-number.number) None) (sym c.is_document.ensures ∙ c.if-is_document.false))
