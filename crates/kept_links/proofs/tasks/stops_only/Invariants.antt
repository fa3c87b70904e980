use Rattle.std.specs.Prelude.{◌≡◌, ◌==◌, take}
use Rattle.reindex.specs.Ways.{begun_at, needed}
use Rattle.kept_links.proofs.tasks.stops_only.Given as goal

-- the stops so far
abbrev pub invariant-loop-stop : goal.invariant-loop-stop
invariant-loop-stop l = l.only.items ≡ needed (begun_at (λ other. other == l.dir) (take l.stop-index l.stops))
