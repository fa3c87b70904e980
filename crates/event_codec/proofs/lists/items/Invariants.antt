use Rattle.std.proofs.Common.{◌-◌, None}
use Rattle.hac_model.specs.Payload.Fields.{items_at}
use Rattle.event_codec.proofs.LoopLemmas.{GoesOn}
use Rattle.event_codec.proofs.lists.items.Given as goal

abbrev pub invariant-items : goal.invariant-items
invariant-items g l = GoesOn (g.T.Item.item l.fn.version) l.items.items (l.count - l.counter) l.bytes (items_at (g.T.Item.item l.fn.version) l.fn.count None l.fn.bytes)
