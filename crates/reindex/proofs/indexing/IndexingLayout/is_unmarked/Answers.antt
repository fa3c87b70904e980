use Rattle.std.proofs.Common.{sym, ◌∙◌}
use Rattle.reindex.proofs.IndexedLemmas.{unmarked-indexed}
use Rattle.reindex.proofs.indexing.IndexingLayout.is_unmarked.Goals as goal

pub returns : goal.returns
returns c = λ _. c.is_unmarked.ensures ∙ sym (unmarked-indexed c.args.self.now.last c.args.self.now.kept.now.state c.args.dir c.args.item)
