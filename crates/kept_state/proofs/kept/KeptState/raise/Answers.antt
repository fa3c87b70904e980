use Rattle.std.proofs.Common.{ap, subst, sym}
use Rattle.file_tree.specs.Seen as tree
use Rattle.kept_state.specs.Kept.{IsKept}
use Rattle.kept_state.specs.declared.ready.Ready.{Ready}
use Rattle.kept_state.proofs.RaisedLemmas.{raised-linked}
use Rattle.kept_state.proofs.kept.KeptState.raise.Goals as goal

pub invariant_of-self : goal.invariant_of-self
invariant_of-self c =
    let parts = c.self.inside.parts in
    let grown : tree.Seen = c.raise.new.self in
    subst (λ (r : Ready). IsKept (record { parts = record parts { tree = grown }; ready = r })) (sym c.set.ensures)
    (record { linked = raised-linked parts c.self.invariant.linked grown (ap (λ (t : tree.Seen). t.state) c.raise.ensures); ready = tt; happen = tt })
