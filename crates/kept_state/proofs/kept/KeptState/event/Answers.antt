use Rattle.std.proofs.Common.{subst}
use Rattle.std.specs.Prelude.{IsTrue}
use Rattle.kept_state.specs.After.{are_quiet}
use Rattle.kept_state.specs.Seen.{Seen}
use Rattle.kept_state.proofs.AfterLemmas.{quiet-ready}
use Rattle.kept_state.proofs.kept.KeptState.event.Goals as goal

pub returns-in_default : goal.returns-in_default
returns-in_default c = record {
  ready = tt;
  accepted = tt;
  stored = tt;
  none = subst (λ (seen : Seen). IsTrue (are_quiet seen.ready)) c.self.view_is (quiet-ready c.self.inside.ready c.in_default.not-Change);
}
