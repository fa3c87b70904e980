use Rattle.std.proofs.Common.{subst, sym}
use Rattle.entry_counts.specs.Counting.{AreSmall}
use Rattle.entry_counts.proofs.CountingLemmas.{counts-small}
use Rattle.tree_counts.proofs.counting.small_counts.Goals as goal

pub returns-clause-small : goal.returns-clause-small
returns-clause-small c = subst AreSmall (sym c.counts.ensures.counts) (counts-small c.args.tree.now.state c.counts.ensures.layout)
