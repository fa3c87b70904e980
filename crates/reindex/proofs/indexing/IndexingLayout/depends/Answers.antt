use Rattle.std.proofs.Common.{sym, ◌∙◌}
use Rattle.reindex.proofs.IndexedLemmas.{depends-indexed}
use Rattle.reindex.proofs.indexing.IndexingLayout.depends.Goals as goal

pub returns : goal.returns
returns c = c.depends.ensures ∙ sym (depends-indexed c.args.self.now.last c.args.self.now.kept.now.state c.args.dir)
