use Rattle.std.proofs.Common.{sym, ◌∙◌}
use Rattle.reindex.proofs.IndexedLemmas.{added-indexed}
use Rattle.reindex.proofs.indexing.IndexingLayout.is_added.Goals as goal

pub returns : goal.returns
returns c = c.is_added.ensures ∙ sym (added-indexed c.args.self.now.last c.args.self.now.kept.now.state c.args.dir c.args.item)
