use Rattle.std.proofs.Common.{false, sym, true, ◌∙◌}
use Rattle.scope_rules.proofs.ProvideLemmas.{provided}
use Rattle.scope_rules.proofs.providing.provides.Goals as goal

pub returns-then-is_stored_below : goal.returns-then-is_stored_below
returns-then-is_stored_below c = λ s made. c.if-is_stored_below.true ∙ provided s c.args.tree.now.state c.args.marks.now c.args.found.now made c.args.dir c.args.item true (sym c.is_stored_below.ensures ∙ c.if-is_stored_below.true)

pub returns-else-is_stored_below : goal.returns-else-is_stored_below
returns-else-is_stored_below c = λ s made. c.is_link.ensures ∙ provided s c.args.tree.now.state c.args.marks.now c.args.found.now made c.args.dir c.args.item false (sym c.is_stored_below.ensures ∙ c.if-is_stored_below.false)
