use Rattle.std.proofs.Common.{ap, subst, sym, ◌∙◌}
use Rattle.std.specs.Prelude.{IsTrue}
use Rattle.hac_model.specs.Tree.Events.{accepted, apply}
use Rattle.hac_model.specs.Tree.Limits.{counts}
use Rattle.kept_state.specs.Kept.{IsKept}
use Rattle.kept_state.specs.Seen.{Seen}
use Rattle.kept_state.specs.declared.ready.Ready.{Ready}
use Rattle.kept_state.proofs.KeptLemmas.{alike-linked, kept-ready}
use Rattle.kept_state.proofs.kept.KeptState.prepare.Goals as goal

pub invariant_of-self : goal.invariant_of-self
invariant_of-self c =
    kept-ready c.self.inside.parts c.prepare.new.kept c.set-in-Ok.new.self c.args.event c.in-Ok.edges c.args.counts c.self.invariant.linked c.prepare.ensures.alike
    (subst (λ (x : Seen). IsTrue (accepted x.state c.args.event)) (sym c.self.view_is) c.requires.accepted) c.requires.stored c.in-Ok.ensures.suits
    (c.requires.counts ∙ ap (λ (x : Seen). counts (apply x.state c.args.event)) (sym c.self.view_is)) c.set-in-Ok.ensures

pub invariant_of-self-in-Err : goal.invariant_of-self-in-Err
invariant_of-self-in-Err c =
    subst (λ (r : Ready). IsKept (record { parts = c.prepare.new.kept; ready = r })) (sym c.set.ensures)
    (record { linked = alike-linked c.self.inside.parts c.prepare.new.kept c.prepare.ensures.alike c.self.invariant.linked; ready = tt; happen = tt })
