use Rattle.std.proofs.Common.{sym, ◌∙◌}
use Rattle.reindex.proofs.IndexedLemmas.{query-indexed}
use Rattle.reindex.proofs.indexing.IndexingLayout.query.Goals as goal

pub returns : goal.returns
returns c = c.query_at.ensures ∙ sym (query-indexed c.args.self.now.last c.args.self.now.kept.now.state c.args.dir)
