use Rattle.std.proofs.Common.{arith}
use Rattle.hac_store.proofs.ReadLemmas.{spelled-within}
use Rattle.hac_store.proofs.opening.apply_payload.Goals as goal

pub overflow_add-result-in-Err-Bad : goal.overflow_add-result-in-Err-Bad
overflow_add-result-in-Err-Bad g c =
    let wrong = rw c.in-Err-Bad.field-0-is at c.in-Err-Bad.ensures.event in
    omega (arith, spelled-within c.version.result c.args.payload.now c.in-Err-Bad.offset wrong, c.requires)
