use Rattle.std.proofs.Common.{arith, ◌∙◌}
use Rattle.reindex.proofs.PlaceLemmas.{needed-more}
use Rattle.reindex.proofs.ways.stops_needed.Goals as goal

pub loop-place-preserved : goal.loop-place-preserved
loop-place-preserved c =
    let place = c.loop-place.place in (
      c.behind-left.ensures.rise,
      λ n further. c.behind-left.ensures.same n (omega (arith, further)) ∙ c.loop-place.invariant.1 n (omega (arith, further)),
      λ begins are. needed-more begins c.args.stops.now c.args.places.now place c.index-stops-place.result c.is_first.result c.loop-place.begun.items c.add_needed.new.begun.items are
          c.loop-place-test.true c.index-stops-place.is (c.is_first.ensures ∙ c.loop-place.invariant.1 place (omega arith)) c.in_ok-add_needed.ensures (c.loop-place.invariant.2 begins are),
    )
