use Rattle.std.proofs.Common.{◌≡◌, List, ap, arith, subst, sym, ◌∙◌}
use Rattle.std.specs.Prelude.{None, Some, map}
use Rattle.hac_model.specs.Query.Words.{words}
use Rattle.hac_model.specs.Tree.Links.{query_at, shown_of}
use Rattle.hac_model.specs.declared.states.State.{State}
use Rattle.query_index.specs.Seen.{IsFitOf}
use Rattle.reeval.specs.Probes.{terms_along}
use Rattle.reeval.specs.Routes.{Covers, dirs_of}
use Rattle.reeval.specs.declared.settling.Stop.{Stop}
use Rattle.reindex.specs.Anew.{unjudged_state}
use Rattle.reindex.specs.Steps.{indexed_through, may_begin}
use Rattle.reindex.specs.Ways.{begun_at, needed}
use Rattle.reindex.proofs.IndexedLemmas.{indexed-none}
use Rattle.reindex.proofs.ProbeLemmas.{along-needed}
use Rattle.reindex.proofs.TextLemmas.{fit-tells}
use Rattle.reindex.proofs.UnjudgedLemmas.{covers-first}
use Rattle.reindex.proofs.WayLemmas.{index-way}
use Rattle.reindex.proofs.anew.news_of_text.Goals as goal

pub stops_fitting-requires : goal.stops_fitting-requires
stops_fitting-requires g c =
    let s = c.args.kept.now.state in
    let way = c.args.way.now in
    let w = c.requires.way in (
      s,
      c.args.text.now,
      w,
      c.in_ok-fit.ensures (map (query_at s) (dirs_of way.stops.items)) (index-way s way w),
    )

pub invariant_of-fitted : goal.invariant_of-fitted
invariant_of-fitted g c =
    let s = c.args.kept.now.state in
    let w = c.requires.way in
    fit-tells (map (query_at s) w.order) c.in_ok-fit.fit (indexed_through 0 s) c.args.item c.args.text.now
    (subst (λ (t : State). shown_of t c.args.item ≡ Some c.args.text.now) (sym (indexed-none s c.know_valid.ensures.layout)) c.requires.shows)
    (c.in_ok-fit.ensures (map (query_at s) w.order) w.over.index)

pub news_along-requires-clause-way : goal.news_along-requires-clause-way
news_along-requires-clause-way g c =
    let s = c.args.kept.now.state in
    let way = c.args.way.now in
    let w = c.requires.way in
    let text = c.args.text.now in
    let fit : IsFitOf (map (query_at s) (dirs_of way.stops.items)) (words text) c.in_ok-fit.fit =
    c.in_ok-fit.ensures (map (query_at s) (dirs_of way.stops.items)) (index-way s way w) in
    subst (λ (stops : List Stop). Covers (unjudged_state s) s stops c.args.item) (sym (c.as_slice.ensures.value ∙ c.in_ok-stops.ensures s text fit))
    (covers-first s c.requires.unlent c.args.item text c.requires.shows c.know_valid.ensures way w)

pub returns-clause-probes : goal.returns-clause-probes
returns-clause-probes g c =
    let s = c.args.kept.now.state in
    let way = c.args.way.now in
    let w = c.requires.way in
    let begins = may_begin s None c.args.text.now in
    let most = c.news_along.ensures.probes in
    let fit : IsFitOf (map (query_at s) (dirs_of way.stops.items)) (words c.args.text.now) c.in_ok-fit.fit =
    c.in_ok-fit.ensures (map (query_at s) (dirs_of way.stops.items)) (index-way s way w) in
    let same : terms_along s c.as_slice.result.now ≡ terms_along s (needed (begun_at begins way.stops.items)) = ap (terms_along s) (c.as_slice.ensures.value ∙ c.in_ok-stops.ensures s c.args.text.now fit) in
    let few = along-needed s way w c.know_valid.ensures begins in
    omega (arith, most, same, few)

pub news_along-requires-clause-layout : goal.news_along-requires-clause-layout
news_along-requires-clause-layout g c = indexed-none c.args.kept.now.state c.know_valid.ensures.layout
