use Rattle.std.specs.Prelude.{◌≡◌, take}
use Rattle.reindex.specs.Ways.{stops_from}
use Rattle.reindex.proofs.ways.stops_from.Given as goal

-- the stops so far
abbrev pub invariant-loop-dir : goal.invariant-loop-dir
invariant-loop-dir l = l.stops.items ≡ stops_from l.first l.ties (take l.dir-index l.dirs)
