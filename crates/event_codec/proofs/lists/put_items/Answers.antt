use Rattle.event_codec.proofs.LoopLemmas.{writes_more}
use Rattle.event_codec.proofs.lists.put_items.Goals as goal

pub items-preserved : goal.items-preserved
items-preserved g c = writes_more (g.T.Item.item c.args.version) c.args.out.now.items c.args.items.now c.items.item-index c.items.out.items c.put.new.out.items c.item-item.result c.items-test.true c.item-item.is c.in_ok-put.ensures c.items.invariant
