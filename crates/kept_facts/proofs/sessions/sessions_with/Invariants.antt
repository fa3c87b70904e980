use Rattle.std.proofs.Common.{◌≡◌, ◌++◌, drop}
use Rattle.hac_model.specs.Tree.Sessions.{sessions_without}
use Rattle.kept_facts.proofs.sessions.sessions_with.Given as goal

-- the others were copied so far
abbrev pub invariant-sessions : goal.invariant-sessions
invariant-sessions l =
    l.after.items ++ sessions_without l.name (drop l.session-index l.sessions) ≡ sessions_without l.name l.fn.sessions
