use Rattle.std.proofs.Common.{refl, ◌∙◌}
use Rattle.scope_rules.proofs.CarryLemmas.{next-carried}
use Rattle.scope_rules.proofs.after.Scope.new.Goals as goal

pub returns-clause-tells : goal.returns-clause-tells
returns-clause-tells c = λ s before. record { old = s; before = before; is = refl; next = c.next_after.ensures ∙ next-carried s c.args.tree.now.state c.args.event.now before }
