use Rattle.std.proofs.Common.{◌≡◌, [], refl, subst, sym}
use Rattle.hac_model.specs.Tree.{root_alone}
use Rattle.hac_model.specs.declared.states.State.{State}
use Rattle.link_kinds.specs.Seen.{IsEmpty}
use Rattle.reeval.specs.Settled.{AreLinksOf, AreSetsAsked}
use Rattle.reindex.specs.Ways.{IsWayOf}
use Rattle.kept_links.proofs.KeepLemmas.{kept-none, none-kept, way-root}
use Rattle.kept_links.proofs.linked.LinkedState.new.Goals as goal

pub invariant_of-result : goal.invariant_of-result
invariant_of-result c =
    let root : c.in_ok-new.field-0.state ≡ root_alone c.args.version = λ i. (c.in_ok-new.ensures i).state in
    let none : c.in_ok-new.field-0.ready ≡ [] = λ i. (c.in_ok-new.ensures i).ready in
    kept-none _ none
    (subst (λ (state : State). AreLinksOf state c.new-2.result) (sym root) (none-kept c.args.version c.new-2.result (subst IsEmpty (sym c.new-2.ensures) (λ dir. refl))))
    (subst (AreSetsAsked c.in_ok-new.field-0.state) (sym c.new-2.ensures) (λ dir never. absurd cc))
    (subst (λ (state : State). IsWayOf state c.new-3.result) (sym root) (way-root c.args.version c.new-3.result (c.new-3.ensures (root_alone c.args.version))))
    c.new-4.ensures.items refl
