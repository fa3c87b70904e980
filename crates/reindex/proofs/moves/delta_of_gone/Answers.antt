use Rattle.std.proofs.Common.{ap, sym, ◌∙◌}
use Rattle.std.specs.Prelude.{◌++◌}
use Rattle.reeval.proofs.PlanLemmas.{no-item}
use Rattle.reindex.proofs.SettledLemmas.{among-at, settled-next, settled-none}
use Rattle.reindex.proofs.moves.delta_of_gone.Goals as goal

pub loop-item-init : goal.loop-item-init
loop-item-init c = λ t valid gone. settled-none c.args.past.now t c.new-delta.result.items c.new-delta.ensures.items

pub loop-item-preserved : goal.loop-item-preserved
loop-item-preserved c = λ t valid gone.
    let item = c.item-item.result in
    settled-next c.args.past.now t c.args.items.now c.loop-item.item-index item c.loop-item.delta.items c.in_ok-news.news.items _
    c.requires.once c.loop-item-test.true c.item-item.is
    (c.in_ok-extend_from_slice.ensures.items ∙ ap (λ more. c.loop-item.delta.items ++ more) c.as_slice.ensures.value)
    c.in_ok-news.ensures.own
    (λ dir. c.in_ok-news.ensures.none dir ∙ sym (no-item t valid item dir (gone item (among-at c.args.items.now c.loop-item.item-index item c.loop-item-test.true c.item-item.is))))
    c.in_ok-news.ensures.fresh (c.loop-item.invariant t valid gone)
