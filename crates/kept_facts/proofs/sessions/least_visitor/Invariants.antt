use Rattle.std.proofs.Common.{◌≡◌, ◌≤◌, drop, length}
use Rattle.hac_model.specs.Tree.Sessions.{least_name, visitors}
use Rattle.kept_facts.proofs.sessions.least_visitor.Given as goal

-- the least of the names of those that were looked at: the last ones
abbrev pub invariant-sessions : goal.invariant-sessions
invariant-sessions l = (l.left ≤ length l.sessions) × (l.least ≡ least_name (visitors (drop l.left l.sessions) l.dir))

abbrev pub decreases-sessions : goal.decreases-sessions
decreases-sessions l = l.left
