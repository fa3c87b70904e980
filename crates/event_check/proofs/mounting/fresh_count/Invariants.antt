use Rattle.std.proofs.Common.{◌≡◌, ◌≤◌, ◌+◌, drop, length}
use Rattle.hac_model.specs.Tree.Mounting.{fresh}
use Rattle.event_check.proofs.mounting.fresh_count.Given as goal

-- so many of the names so far are fresh, and the others are left to be counted
abbrev pub invariant-loop-name : goal.invariant-loop-name
invariant-loop-name l = record { few : l.count ≤ l.name-index; so_far : l.count + length (fresh l.tree.state l.mount (drop l.name-index l.names)) ≡ length (fresh l.tree.state l.mount l.names) }
