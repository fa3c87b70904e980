use Rattle.std.proofs.Common.{ap, arith, ◌∙◌}
use Rattle.std.specs.Prelude.{◌++◌}
use Rattle.hac_model.specs.Tree.Costs.{weight}
use Rattle.reindex.proofs.ProbeLemmas.{more-at}
use Rattle.reindex.proofs.SettledLemmas.{among-at, settled-next, settled-none}
use Rattle.reindex.proofs.moves.delta_of_moved.Goals as goal

pub news_of_moved-requires-clause-moves : goal.news_of_moved-requires-clause-moves
news_of_moved-requires-clause-moves g c = c.requires.moves c.item-item.result (among-at c.args.items.now c.loop-item.item-index c.item-item.result c.loop-item-test.true c.item-item.is)

pub loop-item-init : goal.loop-item-init
loop-item-init g c = (settled-none c.args.past.now (g.Y.Layout.state c.args.layout.now) c.new-delta.result.items c.new-delta.ensures.items, omega arith)

pub loop-item-preserved : goal.loop-item-preserved
loop-item-preserved g c = (
  settled-next c.args.past.now (g.Y.Layout.state c.args.layout.now) c.args.items.now c.loop-item.item-index c.item-item.result c.loop-item.delta.items c.in_ok-news.news.items _
      c.requires.once c.loop-item-test.true c.item-item.is
      (c.in_ok-extend_from_slice.ensures.items ∙ ap (λ more. c.loop-item.delta.items ++ more) c.as_slice.ensures.value)
      c.in_ok-news.ensures.own c.in_ok-news.ensures.news c.in_ok-news.ensures.fresh c.loop-item.invariant.0,
  more-at c.args.items.now c.loop-item.item-index c.item-item.result (weight (g.Y.Layout.state c.args.layout.now)) c.args.probes.now c.loop-item.probes c.news_of_moved.new.probes
      c.loop-item-test.true c.loop-item.invariant.1 c.in_ok-news.ensures.probes,
)
