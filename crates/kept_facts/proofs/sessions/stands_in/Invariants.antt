use Rattle.std.proofs.Common.{◌≡◌, drop}
use Rattle.hac_model.specs.Tree.Sessions.{stands_in}
use Rattle.kept_facts.proofs.sessions.stands_in.Given as goal

abbrev pub invariant-loop-session : goal.invariant-loop-session
invariant-loop-session l = stands_in (drop l.session-index l.sessions) l.name ≡ stands_in l.fn.sessions l.name
