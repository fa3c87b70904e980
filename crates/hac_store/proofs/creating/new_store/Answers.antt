use Rattle.std.proofs.Common.{ap, arith, subst, sym}
use Rattle.hac_core.specs.Seen.{Seen as Kept}
use Rattle.hac_model.specs.Tree.Valid.{IsValid}
use Rattle.hac_model.proofs.AcyclicLemmas.{empty-valid}
use Rattle.hac_store.proofs.creating.new_store.Goals as goal

pub invariant_of-result : goal.invariant_of-result
invariant_of-result g c = (subst IsValid (sym (ap (λ (m : Kept). m.state) c.in_ok-machine.ensures)) empty-valid, omega arith)
