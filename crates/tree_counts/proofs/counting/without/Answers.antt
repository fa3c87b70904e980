use Rattle.hac_model.proofs.MoveLemmas.{some-found}
use Rattle.entry_counts.proofs.CountingLemmas.{part-told, told-removed}
use Rattle.tree_counts.proofs.counting.without.Goals as goal

pub minus-requires : goal.minus-requires
minus-requires c =
    let s = c.args.tree.now.state in
    let entry = some-found s.entries c.args.entry c.requires.there in
    part-told s c.small_counts.ensures.layout c.args.entry entry.0 entry.1 c.small_counts.result c.share.result c.small_counts.ensures.counts (c.share.ensures entry.0 entry.1)

pub returns : goal.returns
returns c =
    let s = c.args.tree.now.state in
    let entry = some-found s.entries c.args.entry c.requires.there in
    told-removed s c.small_counts.ensures.layout c.args.entry entry.0 entry.1 c.small_counts.result c.share.result c.small_counts.ensures.counts (c.share.ensures entry.0 entry.1) c.minus.result c.requires.short c.minus.ensures
