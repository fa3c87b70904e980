-- The links that are kept are those of the state, before and after it changes.
use Rattle.std.proofs.Common.{◌≡◌, ℕ, zero, suc, List, [], ◌∷◌, ap, arith, refl, sym, subst, ◌∙◌}
use Rattle.std.specs.Prelude.{Option, None, IsTrue, replicate, unwrap_or}
use Rattle.hac_model.specs.Laws.{AllHappen}
use Rattle.hac_model.specs.Tree.{raised, root_alone}
use Rattle.hac_model.specs.Tree.Events.{accepted, apply, apply_all}
use Rattle.hac_model.specs.declared.events.Event.{Event}
use Rattle.hac_model.specs.declared.events.Event.TheVariants.{Step, Cd}
use Rattle.hac_model.specs.Tree.Links.{is_semantic, links}
use Rattle.hac_model.specs.Tree.Valid.{IsValid}
use Rattle.hac_model.specs.declared.states.State.{State}
use Rattle.hac_model.specs.declared.versions.Version.{Version}
use Rattle.link_kinds.specs.Kinds.{Lists}
use Rattle.link_kinds.specs.Seen.{IsEmpty, Known, LinkListsRise, SameKinds}
use Rattle.reeval.specs.Judging.{verdict_of}
use Rattle.reeval.specs.Settled.{AreFresh, AreLinksOf, AreSetsAsked, HasRoom, verdict_in}
use Rattle.reeval.specs.Told.{news_on, told}
use Rattle.reeval.specs.declared.verdicts.Change.{Change}
use Rattle.reeval.proofs.LinkedLemmas.{links-tell, links-told}
use Rattle.hac_model.proofs.AcyclicLemmas.{apply-valid}
use Rattle.hac_model.proofs.RaisedLemmas.{links-raised}
use Rattle.kept_state.specs.Seen.{Seen}
use Rattle.reindex.specs.Past.{Lead}
use Rattle.reindex.specs.Ways.{IsWayOf, IsWayOver}
use Rattle.reindex.specs.declared.ways.Way.{Way}
use Rattle.kept_links.specs.Kept.{AreLinksKept}
use Rattle.kept_links.specs.declared.linked.LinkedState.TheInside.{Inside}
use Rattle.kept_links.proofs.SetLemmas.{asked-few, semantic-steps}
use Rattle.kept_links.proofs.TaskLemmas.{nothing-new, way-still}

-- the root alone has none
pub none-kept : (version : Version) (known : Known) → IsEmpty known → AreLinksOf (root_alone version) known
unfolding links
none-kept version known none = record {
  found = λ dir. ap (λ (lists : Lists). lists.transient) (none dir);
  lent = λ dir. ap (λ (lists : Lists). lists.lent) (none dir);
}

-- once the changes are put that lead to another state, they are the links of that
pub links-led : (s t : State) (old new : Known) (delta : List Change) → AreLinksOf s old → Lead s t delta → IsValid t → LinkListsRise new →
    ((item dir : ℕ) → verdict_in new item dir ≡ told (news_on item delta) (verdict_in old item) dir) → AreLinksOf t new
links-led s t old new delta are lead valid rise put =
    links-told t new valid rise (λ item dir. put item dir ∙ (λ i. told (news_on item delta) (λ d. links-tell s old are item d i) dir) ∙ lead.verdicts item dir)

-- what is ready for nothing has no changes before it
pub nothing-leads : (s : State) (ready : List Event) (delta : List Change) → ready ≡ [] → delta ≡ [] → Lead s (apply_all s ready) delta
nothing-leads s ready delta none no_change = record {
  verdicts = λ item dir.
      ap (λ (changes : List Change). told (news_on item changes) (verdict_of s item) dir) no_change
      ∙ ap (λ (events : List Event). verdict_of (apply_all s events) item dir) (sym none);
  fresh = subst (AreFresh s) (sym no_change) tt;
}

pub nothing-wanted : (known : Known) (delta : List Change) → delta ≡ [] → HasRoom known delta
nothing-wanted known delta none = subst (λ (changes : List Change). HasRoom known changes) (sym none) (record { sets = tt; spare = omega arith })

-- The way to all semantic directories.

-- none is there beside the root alone
pub way-root : (version : Version) (way : Way) → IsWayOver (root_alone version) [] way → IsWayOf (root_alone version) way
way-root version way over = record {
  order = [];
  ordered = tt;
  all = λ dir some. absurd (some refl);
  only = λ dir among. absurd among;
  over = over;
}

-- a state that is raised has the same one
way-raised : (s : State) (way : Way) → IsWayOf s way → IsWayOf (raised s) way
way-raised s way is = record { order = is.order; ordered = is.ordered; all = is.all; only = is.only; over = record { stops = is.over.stops; index = is.over.index; lends = is.over.lends; leaning = is.over.leaning } }

-- what is ready for nothing leaves it
pub nothing-next : (s : State) (ready : List Event) (way : Way) (next : Option Way) → ready ≡ [] → next ≡ None → IsWayOf s way → IsWayOf (apply_all s ready) (unwrap_or next way)
nothing-next s ready way next none same is =
    subst (λ (events : List Event). IsWayOf (apply_all s events) (unwrap_or next way)) (sym none)
    (subst (λ (o : Option Way). IsWayOf s (unwrap_or o way)) (sym same) is)

-- links in which each item has the kinds that it had are those of the state, too
pub links-alike : (s : State) (old new : Known) → AreLinksOf s old → SameKinds old new → AreLinksOf s new
links-alike s old new are same = record {
  found = λ dir. ap (λ (lists : Lists). lists.transient) (same dir) ∙ are.found dir;
  lent = λ dir. ap (λ (lists : Lists). lists.lent) (same dir) ∙ are.lent dir;
}

-- A state that is ready for nothing, or for what changes no link.

pub kept-none : (inside : Inside) → inside.kept.ready ≡ [] → AreLinksOf inside.kept.state inside.found → AreSetsAsked inside.kept.state inside.found → IsWayOf inside.kept.state inside.way → inside.delta.items ≡ [] → inside.next ≡ None → AreLinksKept inside
kept-none inside none are asked way no_change same = record {
  links = are;
  room = nothing-wanted inside.found inside.delta.items no_change;
  leads = nothing-leads inside.kept.state inside.kept.ready inside.delta.items none no_change;
  way = way;
  next = nothing-next inside.kept.state inside.kept.ready inside.way inside.next none same way;
  sets = asked-few inside.kept.state inside.begun inside.found asked;
  begun = λ dir _. ap (λ (events : List Event). is_semantic (apply_all inside.kept.state events) dir) (sym none);
}

-- and a state that is raised, which has the same links
links-of-raised : (s : State) (known : Known) → AreLinksOf s known → AreLinksOf (raised s) known
links-of-raised s known are = record {
  found = λ dir. are.found dir ∙ (λ i. (sym (links-raised s) i dir).found);
  lent = λ dir. are.lent dir ∙ (λ i. (sym (links-raised s) i dir).lent);
}

pub kept-raised : (s : State) (inside : Inside) → inside.kept ≡ record { state = raised s; ready = [] } → AreLinksOf s inside.found → AreSetsAsked s inside.found → IsWayOf s inside.way → inside.delta.items ≡ [] → inside.next ≡ None → AreLinksKept inside
kept-raised s inside is are asked way no_change same =
    let state : inside.kept.state ≡ raised s = ap (λ (seen : Seen). seen.state) is in
    kept-none inside (ap (λ (seen : Seen). seen.ready) is)
    (subst (λ (t : State). AreLinksOf t inside.found) (sym state) (links-of-raised s inside.found are))
    (subst (λ (t : State). AreSetsAsked t inside.found) (sym state) asked)
    (subst (λ (t : State). IsWayOf t inside.way) (sym state) (way-raised s inside.way way))
    no_change same

-- what was prepared leaves the state, so the links and the way are those of it
pub links-stay : (s : State) (kept : Seen) (found : Known) (ready : List Event) → kept ≡ record { state = s; ready = ready } → AreLinksOf s found → AreLinksOf kept.state found
links-stay s kept found ready is are = subst (λ (t : State). AreLinksOf t found) (sym (ap (λ (seen : Seen). seen.state) is)) are

pub sets-stay : (s : State) (kept : Seen) (found : Known) (ready : List Event) → kept ≡ record { state = s; ready = ready } → AreSetsAsked s found → AreSetsAsked kept.state found
sets-stay s kept found ready is asked = subst (λ (t : State). AreSetsAsked t found) (sym (ap (λ (seen : Seen). seen.state) is)) asked

pub way-stays : (s : State) (kept : Seen) (way : Way) (ready : List Event) → kept ≡ record { state = s; ready = ready } → IsWayOf s way → IsWayOf kept.state way
way-stays s kept way ready is w = subst (λ (t : State). IsWayOf t way) (sym (ap (λ (seen : Seen). seen.state) is)) w

-- a session changes no link
pub kept-session : (s : State) (session : List ℕ) (dir : ℕ) (inside : Inside) → IsValid s → IsTrue (accepted s (Cd session dir)) → inside.kept ≡ record { state = s; ready = Cd session dir ∷ [] } →
    AreLinksOf s inside.found → AreSetsAsked s inside.found → IsWayOf s inside.way → inside.delta.items ≡ [] → inside.next ≡ None → AreLinksKept inside
kept-session s session dir inside valid ok is are asked way no_change same = record {
  links = links-stay s inside.kept inside.found (Cd session dir ∷ []) is are;
  room = nothing-wanted inside.found inside.delta.items no_change;
  leads = subst (λ (seen : Seen). Lead seen.state (apply_all seen.state seen.ready) inside.delta.items) (sym is) leads;
  way = way-stays s inside.kept inside.way (Cd session dir ∷ []) is way;
  next = subst (λ (seen : Seen). IsWayOf (apply_all seen.state seen.ready) (unwrap_or inside.next inside.way)) (sym is)
      (subst (λ (o : Option Way). IsWayOf (apply s (Cd session dir)) (unwrap_or o inside.way)) (sym same) (way-still s (Cd session dir) valid ok inside.way (λ n. refl) way));
  sets = asked-few inside.kept.state inside.begun inside.found (sets-stay s inside.kept inside.found (Cd session dir ∷ []) is asked);
  begun = λ d _. subst (λ (seen : Seen). is_semantic seen.state d ≡ is_semantic (apply_all seen.state seen.ready) d) (sym is) refl;
}
  where
    leads : Lead s (apply s (Cd session dir)) inside.delta.items
    leads = record {
      verdicts = λ item d.
          ap (λ (changes : List Change). told (news_on item changes) (verdict_of s item) d) no_change
          ∙ nothing-new s (Cd session dir) valid ok (λ n. refl) item refl d;
      fresh = subst (AreFresh s) (sym no_change) tt;
    }

-- steps leave the way
pub steps-way : (s : State) (count : ℕ) (way : Way) → IsValid s → AllHappen s (replicate count Step) → IsWayOf s way → IsWayOf (apply_all s (replicate count Step)) way
steps-way s zero way valid happen w = w
steps-way s (suc count) way valid happen w = steps-way (apply s Step) count way (apply-valid s Step valid happen.0) happen.1 (way-still s Step valid happen.0 way (λ n. refl) w)

-- what is ready for steps
pub kept-steps : (s : State) (count : ℕ) (inside : Inside) → IsValid s → AllHappen s (replicate count Step) → inside.kept ≡ record { state = s; ready = replicate count Step } →
    AreLinksOf s inside.found → AreSetsAsked s inside.found → IsWayOf s inside.way → HasRoom inside.found inside.delta.items → Lead s (apply_all s (replicate count Step)) inside.delta.items → inside.next ≡ None → AreLinksKept inside
kept-steps s count inside valid happen is are asked way room leads same = record {
  links = links-stay s inside.kept inside.found (replicate count Step) is are;
  room = room;
  leads = subst (λ (seen : Seen). Lead seen.state (apply_all seen.state seen.ready) inside.delta.items) (sym is) leads;
  way = way-stays s inside.kept inside.way (replicate count Step) is way;
  next = subst (λ (seen : Seen). IsWayOf (apply_all seen.state seen.ready) (unwrap_or inside.next inside.way)) (sym is)
      (subst (λ (o : Option Way). IsWayOf (apply_all s (replicate count Step)) (unwrap_or o inside.way)) (sym same) (steps-way s count inside.way valid happen way));
  sets = asked-few inside.kept.state inside.begun inside.found (sets-stay s inside.kept inside.found (replicate count Step) is asked);
  begun = λ d _. subst (λ (seen : Seen). is_semantic seen.state d ≡ is_semantic (apply_all seen.state seen.ready) d) (sym is) (semantic-steps s count valid happen d);
}
