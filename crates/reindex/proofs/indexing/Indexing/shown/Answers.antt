use Rattle.std.proofs.Common.{sym, ◌∙◌, arith}
use Rattle.reindex.proofs.IndexedLemmas.{shown-high, shown-low}
use Rattle.reindex.proofs.indexing.Indexing.shown.Goals as goal

pub returns-then-get : goal.returns-then-get
returns-then-get c = c.text_of.ensures ∙ sym (shown-low c.args.self.now.last c.args.self.now.kept.now.state c.args.item (omega (arith, c.get.ensures, c.get-2.ensures)))

pub returns-else-get : goal.returns-else-get
returns-else-get c = c.shown_of.ensures ∙ sym (shown-high c.args.self.now.last c.args.self.now.kept.now.state c.args.item (omega (arith, c.get.ensures, c.get-2.ensures)))
