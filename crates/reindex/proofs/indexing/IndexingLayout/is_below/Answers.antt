use Rattle.std.proofs.Common.{sym, ◌∙◌}
use Rattle.reindex.proofs.IndexedLemmas.{below-indexed}
use Rattle.reindex.proofs.indexing.IndexingLayout.is_below.Goals as goal

pub returns : goal.returns
returns c = c.is_below.ensures ∙ sym (below-indexed c.args.self.now.last c.args.self.now.kept.now.state c.args.dir c.args.item)
