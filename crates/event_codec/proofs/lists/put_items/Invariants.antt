use Rattle.event_codec.proofs.LoopLemmas.{WritesOn}
use Rattle.event_codec.proofs.lists.put_items.Given as goal

abbrev pub invariant-items : goal.invariant-items
invariant-items g l = WritesOn (g.T.Item.item l.fn.version) l.fn.out.items l.items l.item-index l.out.items
