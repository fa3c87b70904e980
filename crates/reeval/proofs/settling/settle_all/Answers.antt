use Rattle.std.proofs.Common.{◌≡◌, ℕ, List, [], ◌∷◌, ◌++◌, ◌+◌, ◌*◌, ◌≤◌, arith, ap, sym, subst, ◌∙◌}
use Rattle.std.specs.Prelude.{drop, length}
use Rattle.std.proofs.lemmas.List.{drop_all, drop_more}
use Rattle.reeval.specs.Probes.{terms_along, terms_settled}
use Rattle.reeval.specs.Routes.{Covers}
use Rattle.reeval.specs.declared.verdicts.Change.{Change}
use Rattle.reeval.proofs.ProbeLemmas.{among-dropped, more-items, more-settled, most-settled}
use Rattle.reeval.proofs.SeveralLemmas.{PartlySettled, partly-all, partly-more, partly-none}
use Rattle.reeval.proofs.settling.settle_all.Goals as goal

pub loop-item-init : goal.loop-item-init
loop-item-init g c = (
  partly-none (g.B.Before.state c.args.before.now) (g.Y.Layout.state c.args.layout.now) c.args.stops.now c.args.items.now c.args.delta.now.items c.requires,
  omega arith,
  λ covers. omega arith,
)

pub loop-item-preserved : goal.loop-item-preserved
loop-item-preserved g c =
    let s = g.B.Before.state c.args.before.now in
    let t = g.Y.Layout.state c.args.layout.now in
    let stops = c.args.stops.now in
    let items = c.args.items.now in
    let rest : List ℕ = drop (c.loop-item.item-index + 1) items in
    let left : drop c.loop-item.item-index items ≡ c.item-item.result ∷ rest =
    drop_more items c.loop-item.item-index c.item-item.result c.loop-item-test.true ∙ ap (λ (item : ℕ). item ∷ rest) (sym c.item-item.is) in (
      subst (PartlySettled s t stops items rest c.args.delta.now.items) (ap (λ (more : List Change). c.loop-item.delta.items ++ more) (sym c.as_slice.ensures.value) ∙ sym c.in_ok-extend_from_slice.ensures.items)
          (partly-more s t stops items c.item-item.result rest c.args.delta.now.items c.loop-item.delta.items c.in_ok-news.news.items
          (subst (λ (more : List ℕ). PartlySettled s t stops items more c.args.delta.now.items c.loop-item.delta.items) left c.loop-item.invariant.0)
          c.in_ok-news.ensures.own c.in_ok-news.ensures.news c.in_ok-news.ensures.fresh),
      more-items rest items c.item-item.result (terms_along t stops) c.args.probes.now c.loop-item.probes c.settle.new.probes
          (subst (λ (more : List ℕ). c.loop-item.probes + length more * terms_along t stops ≤ c.args.probes.now + length items * terms_along t stops) left c.loop-item.invariant.1)
          c.in_ok-news.ensures.most,
      λ covers.
          let here : Covers s t stops c.item-item.result = covers c.item-item.result (among-dropped items c.loop-item.item-index c.item-item.result rest left) in
          more-settled s t stops rest items c.item-item.result c.args.probes.now c.loop-item.probes c.settle.new.probes
          (subst (λ (more : List ℕ). c.loop-item.probes + terms_settled s t stops more ≤ c.args.probes.now + terms_settled s t stops items) left (c.loop-item.invariant.2 covers))
          c.in_ok-news.ensures.most (c.in_ok-news.ensures.few here),
    )

pub returns-clause-settled : goal.returns-clause-settled
returns-clause-settled g c =
    let s = g.B.Before.state c.args.before.now in
    let t = g.Y.Layout.state c.args.layout.now in
    let none : drop c.loop-item.item-index c.args.items.now ≡ [] = drop_all c.loop-item.item-index c.args.items.now c.loop-item-test.false in
    partly-all s t c.args.stops.now c.args.items.now c.args.delta.now.items c.loop-item.delta.items
    (subst (λ (more : List ℕ). PartlySettled s t c.args.stops.now c.args.items.now more c.args.delta.now.items c.loop-item.delta.items) none c.loop-item.invariant.0)

pub returns-in_err-news-clause-few : goal.returns-in_err-news-clause-few
returns-in_err-news-clause-few g c = λ covers.
    let s = g.B.Before.state c.args.before.now in
    let t = g.Y.Layout.state c.args.layout.now in
    let stops = c.args.stops.now in
    let items = c.args.items.now in
    let rest : List ℕ = drop (c.loop-item.item-index + 1) items in
    let left : drop c.loop-item.item-index items ≡ c.item-item.result ∷ rest =
    drop_more items c.loop-item.item-index c.item-item.result c.loop-item-test.true ∙ ap (λ (item : ℕ). item ∷ rest) (sym c.item-item.is) in
    most-settled s t stops rest items c.item-item.result c.args.probes.now c.loop-item.probes c.settle.new.probes
    (subst (λ (more : List ℕ). c.loop-item.probes + terms_settled s t stops more ≤ c.args.probes.now + terms_settled s t stops items) left (c.loop-item.invariant.2 covers))
    c.in_err-news.ensures.most (c.in_err-news.ensures.few (covers c.item-item.result (among-dropped items c.loop-item.item-index c.item-item.result rest left)))

pub returns-in_err-extend_from_slice-clause-few : goal.returns-in_err-extend_from_slice-clause-few
returns-in_err-extend_from_slice-clause-few g c = λ covers.
    let s = g.B.Before.state c.args.before.now in
    let t = g.Y.Layout.state c.args.layout.now in
    let stops = c.args.stops.now in
    let items = c.args.items.now in
    let rest : List ℕ = drop (c.loop-item.item-index + 1) items in
    let left : drop c.loop-item.item-index items ≡ c.item-item.result ∷ rest =
    drop_more items c.loop-item.item-index c.item-item.result c.loop-item-test.true ∙ ap (λ (item : ℕ). item ∷ rest) (sym c.item-item.is) in
    most-settled s t stops rest items c.item-item.result c.args.probes.now c.loop-item.probes c.settle.new.probes
    (subst (λ (more : List ℕ). c.loop-item.probes + terms_settled s t stops more ≤ c.args.probes.now + terms_settled s t stops items) left (c.loop-item.invariant.2 covers))
    c.in_ok-news.ensures.most (c.in_ok-news.ensures.few (covers c.item-item.result (among-dropped items c.loop-item.item-index c.item-item.result rest left)))
