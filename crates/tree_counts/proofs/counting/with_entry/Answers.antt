use Rattle.std.proofs.Common.{ap}
use Rattle.hac_model.specs.declared.counts.Counts.{Counts}
use Rattle.entry_counts.proofs.CountingLemmas.{told-added}
use Rattle.tree_counts.proofs.counting.with_entry.Goals as goal

pub returns : goal.returns
returns c = λ name body is.
    told-added c.args.tree.now.state c.args.dir name body c.small_counts.result c.args.share c.as_new.result c.plus.result c.has_room-is_long.result
    c.small_counts.ensures.layout (c.has_room-is_long.ensures name body (ap (λ (x : Counts). x.mounts) is)) c.small_counts.ensures.counts is c.as_new.ensures.counts c.plus.ensures
