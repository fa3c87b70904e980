use Rattle.entry_counts.proofs.CountingLemmas.{told-moved}
use Rattle.tree_counts.proofs.counting.with_moved.Goals as goal

pub returns : goal.returns
returns c = λ name.
    told-moved c.args.tree.now.state c.args.entry c.args.dir name c.small_counts.result c.with_long_paths.result c.stays_short-is_long.result c.small_counts.ensures.counts (c.stays_short-is_long.ensures name) c.with_long_paths.ensures
