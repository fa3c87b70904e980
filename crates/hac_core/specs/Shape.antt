-- What a machine and a replay are seen as.
use Rattle.hac_model.specs.declared.states.State.{State}
use Rattle.hac_core.specs.Seen.{Seen}
use Rattle.hac_core.specs.declared.machine.Machine.TheInside.{Inside}
use Rattle.hac_core.specs.declared.replay.Replay.TheInside as replay

abbrev pub seen_of : Inside → Seen
seen_of machine = record { state = machine.linked.state; ready = machine.linked.ready }

abbrev pub state_of_replay : replay.Inside → State
state_of_replay replay = replay.unlinked
