use Rattle.std.proofs.Common.{ℕ, List, [], subst}
use Rattle.reeval.specs.Settled.{SettlesAll}
use Rattle.reeval.specs.declared.settling.Stop.{Stop}
use Rattle.reeval.specs.declared.verdicts.Change.{Change}
use Rattle.reeval.proofs.PlanLemmas.{all-fresh, all-told}
use Rattle.reeval.proofs.planning.plan.Goals as goal

pub returns-clause-news : goal.returns-clause-news
returns-clause-news g c = λ planned.
    let s = g.B.Before.state c.args.before.now in
    let t = g.Y.Layout.state c.args.layout.now in
    let first : List Change = c.settle_all.new.delta.items in
    let second : List Change = c.settle_all-2.new.delta.items in
    all-told s t c.args.task.now planned c.requires.apart first second
    (subst (λ (stops : List Stop). SettlesAll s t stops c.args.task.now.touched.items [] first) c.as_slice-everywhere.ensures.value
    (subst (λ (items : List ℕ). SettlesAll s t c.as_slice-everywhere.result.now items [] first) c.as_slice-touched.ensures.value
    (subst (λ (none : List Change). SettlesAll s t c.as_slice-everywhere.result.now c.as_slice-touched.result.now none first) c.new-delta.ensures.items c.in_ok-settle_all.ensures.settled)))
    (subst (λ (stops : List Stop). SettlesAll s t stops c.args.task.now.others.items first second) c.as_slice-along.ensures.value
    (subst (λ (items : List ℕ). SettlesAll s t c.as_slice-along.result.now items first second) c.as_slice-others.ensures.value c.in_ok-settle_all-2.ensures.settled))

pub returns-clause-fresh : goal.returns-clause-fresh
returns-clause-fresh g c = λ planned.
    let s = g.B.Before.state c.args.before.now in
    let t = g.Y.Layout.state c.args.layout.now in
    let first : List Change = c.settle_all.new.delta.items in
    let second : List Change = c.settle_all-2.new.delta.items in
    all-fresh s t c.args.task.now planned c.requires.apart first second
    (subst (λ (stops : List Stop). SettlesAll s t stops c.args.task.now.touched.items [] first) c.as_slice-everywhere.ensures.value
    (subst (λ (items : List ℕ). SettlesAll s t c.as_slice-everywhere.result.now items [] first) c.as_slice-touched.ensures.value
    (subst (λ (none : List Change). SettlesAll s t c.as_slice-everywhere.result.now c.as_slice-touched.result.now none first) c.new-delta.ensures.items c.in_ok-settle_all.ensures.settled)))
    (subst (λ (stops : List Stop). SettlesAll s t stops c.args.task.now.others.items first second) c.as_slice-along.ensures.value
    (subst (λ (items : List ℕ). SettlesAll s t c.as_slice-along.result.now items first second) c.as_slice-others.ensures.value c.in_ok-settle_all-2.ensures.settled))
