use Rattle.std.specs.Prelude.{◌≡◌, take}
use Rattle.reindex.specs.Moves.{place_tells}
use Rattle.reindex.specs.Ways.{begun_at, needed}
use Rattle.reindex.proofs.moves.stops_of_moved.Given as goal

-- the stops so far
abbrev pub invariant-loop-stop : goal.invariant-loop-stop
invariant-loop-stop g l = l.moved.items ≡ needed (begun_at (place_tells l.kept.state (g.Y.Layout.state l.layout) l.item) (take l.stop-index l.stops))
