use Rattle.std.specs.Prelude.{map, take}
use Rattle.hac_model.specs.Tree.Links.{query_at}
use Rattle.query_index.specs.Seen.{IsIndexOf}
use Rattle.reindex.proofs.ways.index_of.Given as goal

-- the queries of the directories so far
abbrev pub invariant-loop-dir : goal.invariant-loop-dir
invariant-loop-dir g l = IsIndexOf (map (query_at (g.Y.Layout.state l.layout)) (take l.dir-index l.dirs)) l.index
