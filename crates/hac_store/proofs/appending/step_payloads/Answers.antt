use Rattle.hac_store.proofs.RoomLemmas.{step-spellable}
use Rattle.hac_store.proofs.appending.step_payloads.Goals as goal

pub write_event-requires : goal.write_event-requires
write_event-requires c = step-spellable c.args.version
