use Rattle.std.proofs.Common.{◌≡◌, ℕ, List, ap, subst, sym, ◌∙◌}
use Rattle.std.specs.Prelude.{unwrap_or}
use Rattle.hac_model.specs.Tree.Events.{apply_all}
use Rattle.hac_model.specs.Tree.Links.{is_semantic}
use Rattle.hac_model.specs.declared.states.State.{State}
use Rattle.reeval.specs.Settled.{verdict_in}
use Rattle.reeval.specs.Told.{news_on, told}
use Rattle.reeval.specs.declared.verdicts.Change.{Change}
use Rattle.reindex.specs.Past.{Lead}
use Rattle.reindex.specs.Ways.{IsWayOf}
use Rattle.reindex.specs.declared.ways.Way.{Way}
use Rattle.kept_links.proofs.KeepLemmas.{kept-none, links-led}
use Rattle.kept_links.proofs.SetLemmas.{few-next}
use Rattle.kept_links.proofs.linked.LinkedState.commit.Goals as goal

pub drop_plain-requires-clause-links : goal.drop_plain-requires-clause-links
drop_plain-requires-clause-links c =
    let s = c.self.inside.kept.state in
    let t = c.commit.new.self.state in
    let led : t ≡ apply_all s c.self.inside.kept.ready = λ i. (c.commit.ensures i).state in
    links-led s t c.self.inside.found c.apply.new.found c.self.inside.delta.items c.self.invariant.links
    (subst (λ (next : State). Lead s next c.self.inside.delta.items) (sym led) c.self.invariant.leads) c.know_valid.ensures c.know_lists.ensures
    (subst (λ (changes : List Change). (item dir : ℕ) → verdict_in c.apply.new.found item dir ≡ told (news_on item changes) (verdict_in c.self.inside.found item) dir) c.as_slice.ensures.value c.apply.ensures.verdicts)

pub drop_plain-requires-clause-sets : goal.drop_plain-requires-clause-sets
drop_plain-requires-clause-sets c =
    let s = c.self.inside.kept.state in
    let t = c.commit.new.self.state in
    let led : t ≡ apply_all s c.self.inside.kept.ready = λ i. (c.commit.ensures i).state in
    few-next s t c.self.inside.begun c.self.inside.found c.apply.new.found
    (λ dir out. c.self.invariant.begun dir out ∙ ap (λ (next : State). is_semantic next dir) (sym led)) c.apply.ensures.sets c.self.invariant.sets

pub invariant_of-self : goal.invariant_of-self
invariant_of-self c =
    let s = c.self.inside.kept.state in
    let t = c.commit.new.self.state in
    let led : t ≡ apply_all s c.self.inside.kept.ready = λ i. (c.commit.ensures i).state in
    kept-none _ (λ i. (c.commit.ensures i).ready) c.drop_plain.ensures.links c.drop_plain.ensures.sets
    (subst (λ (way : Way). IsWayOf t way) (sym c.put_way.ensures.way)
    (subst (λ (next : State). IsWayOf next (unwrap_or c.self.inside.next c.self.inside.way)) (sym led) c.self.invariant.next))
    c.clear.ensures.items c.put_way.ensures.next
