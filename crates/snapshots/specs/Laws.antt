-- What the definitions are for.
use Rattle.std.specs.Prelude.{◌≡◌}
use Rattle.hac_model.specs.Payload.States.{restored, snapshot_of}
use Rattle.hac_model.specs.Tree.Sessions.{sessionless}
use Rattle.hac_model.specs.Tree.Valid.{IsValid}
use Rattle.hac_model.specs.declared.states.State.{State}

-- what is stored of a state tells it, but for where sessions stand
abbrev pub SnapshotsRestore : Type 0
SnapshotsRestore = (s : State) → IsValid s → restored (snapshot_of s) ≡ sessionless s
