use Rattle.hac_model.specs.Tree.Depends.{depends}
use Rattle.reeval.proofs.SettleLemmas.{leans-nowhere}
use Rattle.reeval.proofs.settling.depends_on.Goals as goal

pub returns-else-not-is_empty : goal.returns-else-not-is_empty
returns-else-not-is_empty g c =
    leans-nowhere c.is_empty.result c.args.dirs.now (depends (g.Y.Layout.state c.args.layout.now) c.args.dir) c.is_empty.ensures c.if-not-is_empty.false
