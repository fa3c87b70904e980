use Rattle.std.proofs.Common.{◌≡◌, List, [], ap, refl, subst, sym, ◌∙◌}
use Rattle.std.specs.Prelude.{replicate}
use Rattle.hac_model.specs.Laws.{AllHappen}
use Rattle.hac_model.specs.declared.events.Event.TheVariants.{Step}
use Rattle.hac_model.specs.declared.states.State.{State}
use Rattle.kept_state.specs.Seen.{Seen}
use Rattle.kept_links.proofs.KeepLemmas.{kept-steps, way-stays}
use Rattle.kept_links.proofs.linked.LinkedState.prepare_steps.Goals as goal

pub invariant_of-self-2 : goal.invariant_of-self-2
invariant_of-self-2 g c =
    let inside = c.self.inside in
    let kept = c.prepare_steps.new.self in
    let same : kept.state ≡ c.args.self.now.state = ap (λ (seen : Seen). seen.state) c.prepare_steps.ensures ∙ ap (λ (seen : Seen). seen.state) c.self.view_is in
    kept-steps kept.state c.args.count _ c.know_valid.ensures
    (subst (λ (s : State). AllHappen s (replicate c.args.count Step)) (sym same) c.requires)
    c.prepare_steps-2.ensures c.prepared_steps.ensures.links c.prepared_steps.ensures.sets
    (way-stays inside.kept.state kept inside.way [] c.prepare_steps.ensures c.self.invariant.way)
    c.in_ok-delta.ensures.room c.in_ok-delta.ensures.leads refl
