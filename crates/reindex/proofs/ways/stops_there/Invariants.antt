use Rattle.std.specs.Prelude.{◌≡◌, flat_map, take}
use Rattle.reindex.specs.Ways.{begun_there}
use Rattle.reindex.proofs.ways.stops_there.Given as goal

-- the stops so far
abbrev pub invariant-loop-place : goal.invariant-loop-place
invariant-loop-place l = l.begun.items ≡ flat_map (begun_there l.stops) (take l.place-index l.places)
