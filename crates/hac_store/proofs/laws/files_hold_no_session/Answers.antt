use Rattle.std.proofs.Common.{ap, sym}
use Rattle.hac_model.specs.declared.states.State.{State}
use Rattle.hac_store.proofs.HeldLemmas.{held-stored}
use Rattle.hac_store.proofs.laws.files_hold_no_session.Goals as goal

pub returns : goal.returns
returns c file setting is = ap (λ (s : State). s.sessions) (sym (held-stored file setting is))
