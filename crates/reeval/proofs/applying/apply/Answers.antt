use Rattle.std.proofs.Common.{◌≡◌, List, ◌∷◌, ◌+◌, ap, sym, subst, ◌∙◌}
use Rattle.std.specs.Prelude.{drop}
use Rattle.std.proofs.lemmas.List.{drop_more}
use Rattle.reeval.specs.Settled.{HasRoom, verdict_in}
use Rattle.reeval.specs.Told.{news_on, told}
use Rattle.reeval.specs.declared.verdicts.Change.{Change}
use Rattle.reeval.proofs.ApplyLemmas.{room-left, told-first}
use Rattle.reeval.proofs.applying.apply.Goals as goal

pub loop-change-preserved : goal.loop-change-preserved
loop-change-preserved c =
    let news = c.args.delta.now in
    let rest : List Change = drop (c.loop-change.change-index + 1) news in
    let first : Change = c.change-item.result in
    let left : drop c.loop-change.change-index news ≡ first ∷ rest =
    drop_more news c.loop-change.change-index first c.loop-change-test.true ∙ ap (λ (change : Change). change ∷ rest) (sym c.change-item.is) in (
      (λ item dir.
          told-first item first rest (verdict_in c.loop-change.found item) (verdict_in c.put.new.found item) (λ d. c.put.ensures.verdicts item d) dir
          ∙ ap (λ (all : List Change). told (news_on item all) (verdict_in c.loop-change.found item) dir) (sym left)
          ∙ c.loop-change.invariant.0 item dir),
      room-left c.loop-change.found c.put.new.found first rest (subst (HasRoom c.loop-change.found) left c.loop-change.invariant.1) c.put.ensures.sets c.put.ensures.spare,
      λ d. c.put.ensures.sets d ∙ c.loop-change.invariant.2 d,
    )
