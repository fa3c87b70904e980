use Rattle.std.proofs.Common.{ap, arith}
use Rattle.hac_model.specs.declared.states.State.{State}
use Rattle.reeval.specs.Probes.{terms_along}
use Rattle.reindex.specs.Anew.{unjudged_state}
use Rattle.reindex.proofs.AnewLemmas.{settled-news}
use Rattle.reindex.proofs.UnjudgedLemmas.{said-none}
use Rattle.reindex.proofs.anew.news_along.Goals as goal

pub invariant_of-unjudged : goal.invariant_of-unjudged
invariant_of-unjudged g c = c.requires.unlent

pub returns-clause-news : goal.returns-clause-news
returns-clause-news g c =
    let s = c.args.kept.now.state in
    settled-news s (g.Y.Layout.state c.args.layout.now) (unjudged_state s) c.args.stops.now c.args.item c.settle.result c.requires.layout
    (said-none s c.requires.unlent) c.settle.ensures.own c.settle.ensures.news c.settle.ensures.fresh c.requires.way

pub returns-clause-probes : goal.returns-clause-probes
returns-clause-probes g c =
    let most = c.settle.ensures.most in
    let same = ap (λ (t : State). terms_along t c.args.stops.now) c.requires.layout in
    omega (arith, most, same)
