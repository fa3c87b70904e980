use Rattle.scope_rules.proofs.after.Scope.+leads_up.Given as goal

abbrev pub decreases-leads_up : goal.decreases-leads_up
decreases-leads_up l = l.steps
