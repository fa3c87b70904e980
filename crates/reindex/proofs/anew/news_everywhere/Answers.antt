use Rattle.std.proofs.Common.{◌≡◌, List, ap, arith, subst, sym, ◌∙◌}
use Rattle.hac_model.specs.Tree.{empty}
use Rattle.reeval.specs.Probes.{terms_along}
use Rattle.reeval.specs.Routes.{Covers}
use Rattle.reeval.specs.declared.settling.Stop.{Stop}
use Rattle.reeval.proofs.PlanLemmas.{empty-said}
use Rattle.reindex.specs.Steps.{indexed_through}
use Rattle.reindex.proofs.AnewLemmas.{news-of-none, settled-news}
use Rattle.reindex.proofs.IndexedLemmas.{indexed-none}
use Rattle.reindex.proofs.ProbeLemmas.{along-indexed, along-way}
use Rattle.reindex.proofs.UnjudgedLemmas.{covers-blank}
use Rattle.reindex.proofs.anew.news_everywhere.Goals as goal

pub returns-then-not-is_item-clause-news : goal.returns-then-not-is_item-clause-news
returns-then-not-is_item-clause-news g c =
    news-of-none c.args.kept.now.state c.args.item c.new.result.items c.know_valid.ensures c.new.ensures.items (sym c.is_item.ensures ∙ c.if-not-is_item.true)

pub returns-clause-news : goal.returns-clause-news
returns-clause-news g c =
    let s = c.args.kept.now.state in
    settled-news s (indexed_through 0 s) empty c.as_slice-stops.result.now c.args.item c.settle.result (indexed-none s c.know_valid.ensures.layout)
    empty-said c.settle.ensures.own c.settle.ensures.news c.settle.ensures.fresh
    (subst (λ (stops : List Stop). Covers empty s stops c.args.item) (sym c.as_slice-stops.ensures.value) (covers-blank s c.know_valid.ensures c.args.way.now c.requires c.args.item))

pub returns-clause-probes : goal.returns-clause-probes
returns-clause-probes g c =
    let s = c.args.kept.now.state in
    let most = c.settle.ensures.most in
    let same : terms_along (indexed_through 0 s) c.as_slice-stops.result.now ≡ terms_along s c.args.way.now.stops.items =
    along-indexed 0 s c.as_slice-stops.result.now ∙ ap (terms_along s) c.as_slice-stops.ensures.value in
    let few = along-way s c.args.way.now c.requires c.know_valid.ensures in
    omega (arith, most, same, few)
