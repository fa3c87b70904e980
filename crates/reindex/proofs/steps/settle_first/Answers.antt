use Rattle.std.proofs.Common.{◌≡◌, ℕ, List, ap, arith, subst, sym, ◌∙◌}
use Rattle.std.specs.Prelude.{None, Option, map}
use Rattle.hac_model.specs.Query.Words.{words}
use Rattle.hac_model.specs.Tree.Links.{query_at}
use Rattle.query_index.specs.Seen.{IsFitOf}
use Rattle.reeval.specs.Probes.{terms_along}
use Rattle.reeval.specs.Routes.{Covers, dirs_of}
use Rattle.reeval.specs.declared.settling.Stop.{Stop}
use Rattle.reindex.specs.Steps.{indexed_through, may_begin}
use Rattle.reindex.specs.Ways.{begun_at, needed}
use Rattle.reindex.proofs.ProbeLemmas.{along-indexed, along-needed}
use Rattle.reindex.proofs.NeededLemmas.{covers-needed}
use Rattle.reindex.proofs.TextLemmas.{covered-text, fit-tells}
use Rattle.reindex.proofs.WayLemmas.{index-way}
use Rattle.reindex.proofs.steps.settle_first.Goals as goal

pub stops_fitting-requires : goal.stops_fitting-requires
stops_fitting-requires g c =
    let s = c.args.ahead.now.indexing.kept.now.state in
    let way = c.args.ahead.now.way.now in
    let w = c.requires.ahead.way in (
      s,
      c.args.text.now,
      w,
      c.in_ok-fit.ensures (map (query_at s) (dirs_of way.stops.items)) (index-way s way w),
    )

pub invariant_of-fitted : goal.invariant_of-fitted
invariant_of-fitted g c =
    let s = c.args.ahead.now.indexing.kept.now.state in
    let w = c.requires.ahead.way in
    fit-tells (map (query_at s) w.order) c.in_ok-fit.fit (indexed_through c.args.ahead.now.indexing.last s) c.args.file c.args.text.now c.requires.shows
    (c.in_ok-fit.ensures (map (query_at s) w.order) w.over.index)

pub settle_at-requires-clause-covers : goal.settle_at-requires-clause-covers
settle_at-requires-clause-covers g c =
    let s = c.args.ahead.now.indexing.kept.now.state in
    let last = c.args.ahead.now.indexing.last in
    let t = indexed_through last s in
    let way = c.args.ahead.now.way.now in
    let w = c.requires.ahead.way in
    let text = c.args.text.now in
    let fit : IsFitOf (map (query_at s) (dirs_of way.stops.items)) (words text) c.in_ok-fit.fit =
    c.in_ok-fit.ensures (map (query_at s) (dirs_of way.stops.items)) (index-way s way w) in
    let begun : Covers s t (begun_at (may_begin s None text) way.stops.items) c.args.file =
    subst (λ (old : Option (List ℕ)). Covers s t (begun_at (may_begin s old text) way.stops.items) c.args.file) c.requires.first
    (covered-text s last c.args.file text c.requires.shows way w c.know_valid.ensures c.requires.ahead.valid) in
    subst (λ (all : List Stop). Covers s t all c.args.file) (sym (c.as_slice.ensures.value ∙ c.in_ok-stops.ensures s text fit))
    (covers-needed s t (begun_at (may_begin s None text) way.stops.items) c.args.file begun)

pub returns-clause-probes : goal.returns-clause-probes
returns-clause-probes g c =
    let s = c.args.ahead.now.indexing.kept.now.state in
    let way = c.args.ahead.now.way.now in
    let w = c.requires.ahead.way in
    let t = indexed_through c.args.ahead.now.indexing.last s in
    let begins = may_begin s None c.args.text.now in
    let most = c.settle_at.ensures.probes in
    let fit : IsFitOf (map (query_at s) (dirs_of way.stops.items)) (words c.args.text.now) c.in_ok-fit.fit =
    c.in_ok-fit.ensures (map (query_at s) (dirs_of way.stops.items)) (index-way s way w) in
    let same : terms_along t c.as_slice.result.now ≡ terms_along s (needed (begun_at begins way.stops.items)) =
    along-indexed c.args.ahead.now.indexing.last s c.as_slice.result.now ∙ ap (terms_along s) (c.as_slice.ensures.value ∙ c.in_ok-stops.ensures s c.args.text.now fit) in
    let few = along-needed s way w c.know_valid.ensures begins in
    omega (arith, most, same, few)
