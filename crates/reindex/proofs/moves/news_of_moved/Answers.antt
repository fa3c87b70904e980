use Rattle.std.proofs.Common.{◌≡◌, List, ap, arith, subst, sym, ◌∙◌}
use Rattle.hac_model.specs.Tree.Valid.{IsValid}
use Rattle.hac_model.specs.declared.states.State.{State}
use Rattle.reeval.specs.Probes.{terms_along}
use Rattle.reeval.specs.Routes.{Covers}
use Rattle.reeval.specs.declared.settling.Stop.{Stop}
use Rattle.reindex.specs.Moves.{place_tells}
use Rattle.reindex.specs.Ways.{begun_at, needed}
use Rattle.reindex.proofs.MoveLemmas.{covers-place}
use Rattle.reindex.proofs.ProbeLemmas.{along-needed}
use Rattle.reindex.proofs.moves.news_of_moved.Goals as goal

pub returns-clause-news : goal.returns-clause-news
returns-clause-news g c =
    let s = c.args.past.now in
    let t = g.Y.Layout.state c.args.layout.now in
    c.settle.ensures.news
    (subst (λ (stops : List Stop). Covers s t stops c.args.item) (sym c.as_slice-2.ensures.value)
    (covers-place s t c.args.item c.requires.moves (subst IsValid c.past.view_is c.know_valid.ensures) c.requires.after c.args.way.now c.requires.way
    c.in_ok-stops.stops.items c.as_slice.result.now c.as_slice.ensures.value
    (subst (λ (u : State). c.in_ok-stops.stops.items ≡ needed (begun_at (place_tells u t c.args.item) c.as_slice.result.now)) c.past.view_is c.in_ok-stops.ensures)))

pub returns-clause-fresh : goal.returns-clause-fresh
returns-clause-fresh g c =
    let s = c.args.past.now in
    let t = g.Y.Layout.state c.args.layout.now in
    c.settle.ensures.fresh
    (subst (λ (stops : List Stop). Covers s t stops c.args.item) (sym c.as_slice-2.ensures.value)
    (covers-place s t c.args.item c.requires.moves (subst IsValid c.past.view_is c.know_valid.ensures) c.requires.after c.args.way.now c.requires.way
    c.in_ok-stops.stops.items c.as_slice.result.now c.as_slice.ensures.value
    (subst (λ (u : State). c.in_ok-stops.stops.items ≡ needed (begun_at (place_tells u t c.args.item) c.as_slice.result.now)) c.past.view_is c.in_ok-stops.ensures)))

pub returns-clause-probes : goal.returns-clause-probes
returns-clause-probes g c =
    let s = c.args.past.now in
    let t = g.Y.Layout.state c.args.layout.now in
    let most = c.settle.ensures.most in
    let are = subst (λ (u : State). c.in_ok-stops.stops.items ≡ needed (begun_at (place_tells u t c.args.item) c.as_slice.result.now)) c.past.view_is c.in_ok-stops.ensures in
    let same : terms_along t c.as_slice-2.result.now ≡ terms_along t (needed (begun_at (place_tells s t c.args.item) c.args.way.now.stops.items)) =
    ap (terms_along t) (c.as_slice-2.ensures.value ∙ are ∙ ap (λ (stops : List Stop). needed (begun_at (place_tells s t c.args.item) stops)) c.as_slice.ensures.value) in
    let few = along-needed t c.args.way.now c.requires.way c.requires.after (place_tells s t c.args.item) in
    omega (arith, most, same, few)
