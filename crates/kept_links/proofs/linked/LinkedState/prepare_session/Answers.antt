use Rattle.std.proofs.Common.{refl, subst, sym}
use Rattle.std.specs.Prelude.{IsTrue}
use Rattle.hac_model.specs.Tree.Events.{accepted}
use Rattle.hac_model.specs.declared.events.Event.TheVariants.{Cd}
use Rattle.kept_state.specs.Seen.{Seen}
use Rattle.kept_links.proofs.KeepLemmas.{kept-session}
use Rattle.kept_links.proofs.linked.LinkedState.prepare_session.Goals as goal

pub invariant_of-self-2 : goal.invariant_of-self-2
invariant_of-self-2 c =
    kept-session c.self.inside.kept.state c.args.session c.args.dir _ c.know_valid.ensures
    (subst (λ (seen : Seen). IsTrue (accepted seen.state (Cd c.args.session c.args.dir))) (sym c.self.view_is) c.requires)
    c.in_ok-prepare_session.ensures.ok c.drop_plain.ensures.links c.drop_plain.ensures.sets c.self.invariant.way c.clear.ensures.items refl
