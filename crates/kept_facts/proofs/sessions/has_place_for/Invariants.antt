use Rattle.std.proofs.Common.{◌≡◌, drop, length}
use Rattle.std.specs.Prelude.{nat_le}
use Rattle.hac_model.specs.Tree.Sessions.{are_few, sessions_with, sessions_without}
use Rattle.kept_facts.proofs.sessions.has_place_for.Given as goal

-- there are places for those that were not looked at just where there are for all
abbrev pub invariant-sessions : goal.invariant-sessions
invariant-sessions l =
    nat_le (length (sessions_without l.name (drop l.session-index l.sessions))) l.places
    ≡ are_few l.fn.version (sessions_with l.name l.fn.dir l.fn.sessions)
