use Rattle.std.proofs.Common.{false, sym, true, ◌∙◌}
use Rattle.scope_rules.proofs.ScopeLemmas.{shown-new, shown-old, suits-scope}
use Rattle.scope_rules.proofs.after.Scope.shown.Goals as goal
use Rattle.scope_rules.proofs.after.Scope.shown.Goals.{then-is_new, else-is_new}

pub returns-then-goes : goal.returns-then-goes
returns-then-goes c = λ after of.
    let scope = c.args.self.now in
    elim c.if-is_new.branch [
      | then-is_new w ↦ shown-new scope after of c.args.number (sym c.is_new.ensures ∙ w.if-is_new.true)
      | else-is_new w ↦
          shown-old scope after of c.args.number (sym c.is_new.ensures ∙ w.if-is_new.false) true (sym (w.goes.ensures (suits-scope scope after of c.args.number)) ∙ sym w.value-is ∙ c.if-goes.true)
    ]

pub returns-else-goes : goal.returns-else-goes
returns-else-goes c = λ after of.
    let scope = c.args.self.now in
    elim c.if-is_new.branch [
      | then-is_new w ↦ absurd (let never = sym w.value-is ∙ c.if-goes.false in cc)
      | else-is_new w ↦
          c.left_shown.ensures
          ∙ shown-old scope after of c.args.number (sym c.is_new.ensures ∙ w.if-is_new.false) false (sym (w.goes.ensures (suits-scope scope after of c.args.number)) ∙ sym w.value-is ∙ c.if-goes.false)
    ]
