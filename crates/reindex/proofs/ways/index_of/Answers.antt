use Rattle.std.proofs.Common.{ℕ, List, subst}
use Rattle.std.specs.Prelude.{Option, map, take}
use Rattle.hac_model.specs.Query.Formula.{Formula}
use Rattle.hac_model.specs.Tree.Links.{query_at}
use Rattle.query_index.specs.Seen.{IsIndexOf}
use Rattle.reindex.proofs.WayLemmas.{queries-more}
use Rattle.reindex.proofs.ways.index_of.Goals as goal

pub loop-dir-preserved : goal.loop-dir-preserved
loop-dir-preserved g c =
    let s = g.Y.Layout.state c.args.layout.now in
    let dirs = c.args.dirs.now in
    subst (λ (queries : List (Option (Formula ℕ))). IsIndexOf queries c.in_ok-index.index)
    (queries-more s dirs c.loop-dir.dir-index c.dir-item.result _ c.loop-dir-test.true c.dir-item.is c.query.ensures)
    (c.in_ok-index.ensures (map (query_at s) (take c.loop-dir.dir-index dirs)) c.loop-dir.invariant)
