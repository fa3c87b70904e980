use Rattle.std.proofs.Common.{◌≡◌, ap, subst, sym, ◌∙◌}
use Rattle.std.specs.Prelude.{IfSome}
use Rattle.hac_model.specs.Tree.Events.{apply, apply_all}
use Rattle.hac_model.specs.Tree.Limits as limits
use Rattle.hac_model.specs.declared.states.State.{State}
use Rattle.reindex.specs.Ways.{IsWayOf}
use Rattle.kept_links.proofs.unlinked.UnlinkedState.happen.Goals as goal

pub prepare-requires-clause-counts : goal.prepare-requires-clause-counts
prepare-requires-clause-counts c = c.requires.counts ∙ ap (λ (s : State). limits.counts (apply s c.args.event)) (sym c.self.view_is)

pub invariant_of-self-2 : goal.invariant_of-self-2
invariant_of-self-2 c =
    let led : c.commit.new.self.state ≡ apply c.self.inside.kept.state c.args.event =
    (λ i. (c.commit.ensures i).state) ∙ (λ i. apply_all (c.in_ok-prepare.ensures.ok i).state (c.in_ok-prepare.ensures.ok i).ready) in
    record {
      ready = λ i. (c.commit.ensures i).ready;
      way = subst (λ (t : State). IfSome c.leave_way.new.way (IsWayOf t)) (sym led) c.leave_way.ensures.after;
    }
