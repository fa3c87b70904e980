use Rattle.std.proofs.Common.{[], ◌∷◌, ap, arith, subst}
use Rattle.std.specs.Prelude.{OnOk}
use Rattle.hac_model.specs.declared.states.State.{State}
use Rattle.reeval.specs.Probes.{terms_along}
use Rattle.reeval.specs.Settled.{SettlesAll}
use Rattle.reindex.specs.Ahead.{state_before, state_behind}
use Rattle.reindex.proofs.BatchLemmas.{settled-if}
use Rattle.reindex.proofs.steps.settle_at.Goals as goal

pub returns-clause-settled : goal.returns-clause-settled
returns-clause-settled g c =
    let s = state_before c.args.ahead.now in
    let old = c.args.delta.now.items in
    let new = c.settle_all.new.delta.items in
    settled-if c.settle_all.result s (state_behind c.args.ahead.now) c.args.stops.now c.args.file old new c.requires.covers
    (subst (λ (t : State). OnOk c.settle_all.result (SettlesAll s t c.args.stops.now (c.args.file ∷ []) old new)) c.requires.layout c.settle_all.ensures.settled)

pub returns-clause-probes : goal.returns-clause-probes
returns-clause-probes g c =
    let most = c.settle_all.ensures.most in
    let same = ap (λ (t : State). terms_along t c.args.stops.now) c.requires.layout in
    omega (arith, most, same)
