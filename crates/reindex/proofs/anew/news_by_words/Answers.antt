use Rattle.std.proofs.Common.{◌≡◌, List, ap, arith, subst, sym, ◌∙◌}
use Rattle.std.specs.Prelude.{◌||◌, is_some}
use Rattle.std.specs.Option.{option_copied}
use Rattle.reeval.specs.Probes.{terms_along}
use Rattle.reeval.specs.Routes.{Covers}
use Rattle.reeval.specs.declared.settling.Stop.{Stop}
use Rattle.reindex.specs.Anew.{unjudged_state}
use Rattle.reindex.proofs.AnewLemmas.{news-of-unjudged}
use Rattle.reindex.proofs.IndexedLemmas.{indexed-none}
use Rattle.reindex.proofs.ProbeLemmas.{along-way}
use Rattle.reindex.proofs.UnjudgedLemmas.{covers-anywhere}
use Rattle.reindex.proofs.anew.news_by_words.Goals as goal

pub news_along-requires-clause-way : goal.news_along-requires-clause-way
news_along-requires-clause-way g c =
    let s = c.args.kept.now.state in
    subst (λ (stops : List Stop). Covers (unjudged_state s) s stops c.args.item) (sym c.as_slice-stops.ensures.value)
    (covers-anywhere s c.requires.unlent c.know_valid.ensures c.args.way.now c.requires.way c.args.item)

pub returns-in-None-clause-news : goal.returns-in-None-clause-news
returns-in-None-clause-news g c =
    let s = c.args.kept.now.state in
    news-of-unjudged s c.args.item c.new.result.items c.know_valid.ensures c.new.ensures.items c.requires.unlent
    (λ i. (sym c.is_document.ensures ∙ c.if-is_document.false) i || is_some ((sym c.shown_of.ensures ∙ ap option_copied c.in-None.is) i))

pub returns-then-len-le-FEW_STOPS-clause-probes : goal.returns-then-len-le-FEW_STOPS-clause-probes
returns-then-len-le-FEW_STOPS-clause-probes g c =
    let s = c.args.kept.now.state in
    let most = c.news_along.ensures.probes in
    let same : terms_along s c.as_slice-stops.result.now ≡ terms_along s c.args.way.now.stops.items = ap (terms_along s) c.as_slice-stops.ensures.value in
    let few = along-way s c.args.way.now c.requires.way c.know_valid.ensures in
    omega (arith, most, same, few)

pub news_along-requires-clause-layout : goal.news_along-requires-clause-layout
news_along-requires-clause-layout g c = indexed-none c.args.kept.now.state c.know_valid.ensures.layout
