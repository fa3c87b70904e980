use Rattle.std.proofs.Common.{ap, arith, subst, sym}
use Rattle.hac_core.specs.Seen.{Seen as Kept}
use Rattle.hac_model.specs.Tree.Valid.{IsValid}
use Rattle.hac_model.proofs.RaisedLemmas.{raised-valid}
use Rattle.hac_store.proofs.store.Store.go_on_at.Goals as goal

pub invariant_of-self : goal.invariant_of-self
invariant_of-self c = (
  subst IsValid (sym (ap (λ (m : Kept). m.state) c.raise.ensures)) (raised-valid c.self.inside.machine.state c.self.invariant.0),
  omega (arith, c.requires.end),
)
