use Rattle.hac_store.proofs.RoomLemmas.{steps-have-room}
use Rattle.hac_store.proofs.laws.steps_have_room.Goals as goal

pub returns : goal.returns
returns c = steps-have-room
