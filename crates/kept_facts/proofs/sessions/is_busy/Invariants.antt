use Rattle.std.proofs.Common.{◌≡◌, drop}
use Rattle.hac_model.specs.Tree.Sessions.{is_busy}
use Rattle.kept_facts.proofs.sessions.is_busy.Given as goal

abbrev pub invariant-loop-session : goal.invariant-loop-session
invariant-loop-session l = is_busy (drop l.session-index l.sessions) l.dir ≡ is_busy l.fn.sessions l.dir
