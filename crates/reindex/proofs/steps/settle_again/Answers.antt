use Rattle.std.proofs.Common.{◌≡◌, List, ap, arith, subst, sym}
use Rattle.reeval.specs.Probes.{terms_along}
use Rattle.reeval.specs.Routes.{Covers}
use Rattle.reeval.specs.declared.settling.Stop.{Stop}
use Rattle.reindex.specs.Steps.{indexed_through}
use Rattle.reindex.proofs.steps.settle_again.Goals as goal

pub settle_at-requires-clause-covers : goal.settle_at-requires-clause-covers
settle_at-requires-clause-covers g c =
    let s = c.args.ahead.now.indexing.kept.now.state in
    let t = indexed_through c.args.ahead.now.indexing.last s in
    subst (λ (all : List Stop). Covers s t all c.args.file) (sym c.as_slice.ensures.value) c.in_ok-stops.ensures.covers

pub returns-clause-probes : goal.returns-clause-probes
returns-clause-probes g c =
    let t = indexed_through c.args.ahead.now.indexing.last c.args.ahead.now.indexing.kept.now.state in
    let most = c.settle_at.ensures.probes in
    let same : terms_along t c.as_slice.result.now ≡ terms_along t c.in_ok-stops.stops.items = ap (terms_along t) c.as_slice.ensures.value in
    let few = c.in_ok-stops.ensures.most in
    omega (arith, most, same, few)
