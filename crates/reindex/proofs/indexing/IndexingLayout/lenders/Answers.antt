use Rattle.std.proofs.Common.{sym, ◌∙◌}
use Rattle.reindex.proofs.IndexedLemmas.{lenders-indexed}
use Rattle.reindex.proofs.indexing.IndexingLayout.lenders.Goals as goal

pub returns : goal.returns
returns c = c.lenders.ensures ∙ sym (lenders-indexed c.args.self.now.last c.args.self.now.kept.now.state c.args.dir)
