use Rattle.std.proofs.Common.{sym, ◌∙◌}
use Rattle.reindex.proofs.IndexedLemmas.{item-indexed}
use Rattle.reindex.proofs.indexing.IndexingLayout.is_item.Goals as goal

pub returns : goal.returns
returns c = c.is_item.ensures ∙ sym (item-indexed c.args.self.now.last c.args.self.now.kept.now.state c.args.number)
