use Rattle.std.proofs.Common.{false, sym, true, ◌∙◌}
use Rattle.scope_rules.proofs.ScopeLemmas.{query-new, query-old, suits-scope}
use Rattle.scope_rules.proofs.after.Scope.query.Goals as goal

pub returns-then-is_new : goal.returns-then-is_new
returns-then-is_new c = λ after of.
    c.new_query.ensures c.args.self.now.tree.now.state.next c.args.number ∙ query-new c.args.self.now after of c.args.number (sym c.is_new.ensures ∙ c.if-is_new.true)

pub returns-then-goes : goal.returns-then-goes
returns-then-goes c = λ after of.
    query-old c.args.self.now after of c.args.number (sym c.is_new.ensures ∙ c.if-is_new.false) true (sym (c.goes.ensures (suits-scope c.args.self.now after of c.args.number)) ∙ c.if-goes.true)

pub returns-else-goes : goal.returns-else-goes
returns-else-goes c = λ after of.
    c.left_query.ensures
    ∙ query-old c.args.self.now after of c.args.number (sym c.is_new.ensures ∙ c.if-is_new.false) false (sym (c.goes.ensures (suits-scope c.args.self.now after of c.args.number)) ∙ c.if-goes.false)
