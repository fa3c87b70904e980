use Rattle.std.proofs.Common.{sym, ◌∙◌}
use Rattle.reindex.proofs.IndexedLemmas.{parent-indexed}
use Rattle.reindex.proofs.indexing.IndexingLayout.parent.Goals as goal

pub returns : goal.returns
returns c = c.parent_of.ensures ∙ sym (parent-indexed c.args.self.now.last c.args.self.now.kept.now.state c.args.entry)
