use Rattle.std.proofs.Common.{ℕ, List, None, subst, sym}
use Rattle.query_index.specs.Numbers.{AreThose}
use Rattle.reindex.specs.Steps.{may_begin, may_differ}
use Rattle.reindex.specs.Ways.{begins_there}
use Rattle.reindex.proofs.PlaceLemmas.{places-begin}
use Rattle.reindex.proofs.texts.stops_fitting.Goals as goal

pub returns : goal.returns
returns c s text fit =
    let stops = c.args.way.now.stops.items in
    c.stops_begun.ensures (may_begin s None text)
    (subst (λ (places : List ℕ). AreThose (begins_there (may_begin s None text) stops) places) (sym c.places.ensures)
    (places-begin s (may_differ None text) stops c.args.fit.now.places fit.places))
