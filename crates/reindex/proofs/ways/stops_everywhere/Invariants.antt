use Rattle.std.specs.Prelude.{◌≡◌, take}
use Rattle.reindex.specs.Ways.{stops_everywhere}
use Rattle.reindex.proofs.ways.stops_everywhere.Given as goal

-- the stops so far
abbrev pub invariant-loop-dir : goal.invariant-loop-dir
invariant-loop-dir g l = l.stops.items ≡ stops_everywhere (g.Y.Layout.state l.layout) (take l.dir-index l.dirs)
