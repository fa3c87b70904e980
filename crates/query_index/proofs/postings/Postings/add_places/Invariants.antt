use Rattle.std.specs.Prelude.{take}
use Rattle.query_index.specs.Inner.{is_under}
use Rattle.query_index.specs.Numbers.{AddsAll}
use Rattle.query_index.proofs.postings.Postings.add_places.Given as goal

abbrev pub invariant-loop-at : goal.invariant-loop-at
invariant-loop-at l = AddsAll l.fn.places.items l.places.items (is_under l.self (take l.at-index l.met))
