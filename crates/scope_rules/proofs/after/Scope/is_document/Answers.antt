use Rattle.std.proofs.Common.{Bool, ap, sym, ◌∙◌}
use Rattle.std.specs.Prelude.{◌&&◌, not}
use Rattle.scope_rules.specs.Fates.{goes}
use Rattle.scope_rules.proofs.ScopeLemmas.{document-new, document-old, suits-scope}
use Rattle.scope_rules.proofs.after.Scope.is_document.Goals as goal

pub returns-then-is_new : goal.returns-then-is_new
returns-then-is_new c = λ after of. c.is_new_document.ensures ∙ document-new c.args.self.now after of c.args.number (sym c.is_new.ensures ∙ c.if-is_new.true)

pub returns-then-is_document : goal.returns-then-is_document
returns-then-is_document c = λ after of.
    let scope = c.args.self.now in
    ap not (c.goes.ensures (suits-scope scope after of c.args.number))
    ∙ ap (λ (b : Bool). b && not (goes scope.event.now scope.tree.now.state c.args.number)) (sym c.if-is_document.true ∙ c.is_document.ensures)
    ∙ document-old scope after of c.args.number (sym c.is_new.ensures ∙ c.if-is_new.false)

pub returns-else-is_document : goal.returns-else-is_document
returns-else-is_document c = λ after of.
    let scope = c.args.self.now in
    c.if-is_document.false
    ∙ ap (λ (b : Bool). b && not (goes scope.event.now scope.tree.now.state c.args.number)) (sym c.if-is_document.false ∙ c.is_document.ensures)
    ∙ document-old scope after of c.args.number (sym c.is_new.ensures ∙ c.if-is_new.false)
