use Rattle.std.proofs.Common.{sym, ◌∙◌}
use Rattle.reindex.proofs.IndexedLemmas.{document-indexed}
use Rattle.reindex.proofs.indexing.Indexing.is_document.Goals as goal

pub returns : goal.returns
returns c = c.is_document.ensures ∙ sym (document-indexed c.args.self.now.last c.args.self.now.kept.now.state c.args.number)
