use Rattle.std.proofs.Common.{◌≡◌, ◌+◌, List, ◌∷◌, [], ap, refl, subst, sym, ◌∙◌}
use Rattle.std.specs.Prelude.{drop}
use Rattle.std.proofs.lemmas.List.{drop_all, drop_more}
use Rattle.hac_model.specs.Tree.Valid.{IsValid}
use Rattle.reeval.specs.declared.settling.Stop.{Stop}
use Rattle.reeval.specs.declared.verdicts.Change.{Change}
use Rattle.reindex.proofs.GoneLemmas.{AreGone, gone-linked, gone-none, gone-unlinked}
use Rattle.reindex.proofs.moves.news_of_gone.Goals as goal
use Rattle.reindex.proofs.moves.news_of_gone.Goals.{then-is_linked+in_ok-push, else-is_linked}

pub loop-stop-init : goal.loop-stop-init
loop-stop-init c =
    gone-none c.args.past.now (subst IsValid c.past.view_is c.know_valid.ensures) c.args.way.now c.requires c.args.item c.as_slice-stop-items.result.now c.new-news.result.items
    c.as_slice-stop-items.ensures.value c.new-news.ensures.items

pub loop-stop-preserved : goal.loop-stop-preserved
loop-stop-preserved c =
    let s = c.args.past.now in
    let stops = c.as_slice-stop-items.result.now in
    let rest : List Stop = drop (c.loop-stop.stop-index + 1) stops in
    let left : drop c.loop-stop.stop-index stops ≡ c.stop-item.result ∷ rest =
    drop_more stops c.loop-stop.stop-index c.stop-item.result c.loop-stop-test.true ∙ ap (λ (stop : Stop). stop ∷ rest) (sym c.stop-item.is) in
    let h = subst (λ (more : List Stop). AreGone s c.args.item more c.loop-stop.news.items) left c.loop-stop.invariant in
    elim c.if-is_linked.branch [
      | then-is_linked+in_ok-push w ↦
          gone-linked s c.args.item c.stop-item.result rest c.loop-stop.news.items h c.verdict.result c.verdict.ensures (sym c.is_linked.ensures ∙ w.if-is_linked.true)
          c.if-is_linked.news.items ((λ i. (w.news-is i).items) ∙ w.in_ok-push.ensures.items)
      | else-is_linked w ↦
          subst (λ (changes : List Change). AreGone s c.args.item rest changes) (sym (λ i. (w.news-is i).items))
          (gone-unlinked s c.args.item c.stop-item.result rest c.loop-stop.news.items h c.verdict.result c.verdict.ensures (sym c.is_linked.ensures ∙ w.if-is_linked.false))
    ]

pub returns-clause-own : goal.returns-clause-own
returns-clause-own c = c.loop-stop.invariant.own

pub returns-clause-fresh : goal.returns-clause-fresh
returns-clause-fresh c = c.loop-stop.invariant.fresh

pub returns-clause-none : goal.returns-clause-none
returns-clause-none c = λ dir.
    let s = c.args.past.now in
    let stops = c.as_slice-stop-items.result.now in
    let none : drop c.loop-stop.stop-index stops ≡ [] = drop_all c.loop-stop.stop-index stops c.loop-stop-test.false in
    (subst (λ (more : List Stop). AreGone s c.args.item more c.loop-stop.news.items) none c.loop-stop.invariant).gone dir refl
