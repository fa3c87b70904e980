use Rattle.std.proofs.Common.{sym, ◌∙◌}
use Rattle.file_tree.proofs.DirtyLemmas.{indexed-layout}
use Rattle.file_tree.proofs.tree.Tree.step.Goals as goal

pub show-requires-clause-may : goal.show-requires-clause-may
show-requires-clause-may c = record {
  layout = indexed-layout c.forget.new.self.state c.in-Some.file c.next_dirty.ensures.layout (sym c.next_dirty.ensures.next ∙ c.in-Some.is);
  counts_are = c.counts_indexed-counts.ensures;
}
