-- The state that a snapshot tells is in no session's way.
use Rattle.std.proofs.Common.{◌≡◌, [], ap, refl, ◌∙◌}
use Rattle.hac_model.specs.Payload.States.{restored}
use Rattle.hac_model.specs.declared.snapshots.Snapshot.{Snapshot}
use Rattle.hac_model.specs.declared.states.State.{State}

restored-alone : (snapshot : Snapshot) → (restored snapshot).sessions ≡ []
unfolding restored
restored-alone snapshot = refl

pub told-alone : (snapshot : Snapshot) (state : State) → state ≡ restored snapshot → state.sessions ≡ []
told-alone snapshot state is = ap (λ (s : State). s.sessions) is ∙ restored-alone snapshot
