use Rattle.std.proofs.Common.{arith}
use Rattle.hac_model.specs.Payload.States.{spelled_snapshot}
use Rattle.hac_store.proofs.BeginLemmas.{state-read}
use Rattle.hac_store.proofs.ReadLemmas.{snapshot-within}
use Rattle.hac_store.proofs.areas.read_state.Goals as goal

pub overflow_add-result-in-Err-Bad-2 : goal.overflow_add-result-in-Err-Bad-2
overflow_add-result-in-Err-Bad-2 c =
    let wrong = rw c.in-Err-Bad.field-0-is at c.in-Err-Bad.ensures.snapshot in
    omega (arith, snapshot-within c.args.payload.now c.in-Err-Bad.offset wrong, c.requires)

pub returns-in-Ok-read : goal.returns-in-Ok-read
returns-in-Ok-read c =
    state-read c.args.at (spelled_snapshot c.args.payload.now) c.in-Ok.snapshot c.in-Ok-read.replay c.in-Ok.ensures.snapshot c.in-Ok-read.ensures.state c.in-Ok-read.ensures.valid
