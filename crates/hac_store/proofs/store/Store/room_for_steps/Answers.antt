use Rattle.std.proofs.Common.{sym, ◌∙◌}
use Rattle.hac_store.proofs.RoomLemmas.{steps-have-room}
use Rattle.hac_store.proofs.store.Store.room_for_steps.Goals as goal

pub returns : goal.returns
returns c = c.room_for.ensures ∙ sym (steps-have-room c.args.self.now.setting c.args.count)
