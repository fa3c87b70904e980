use Rattle.hac_model.proofs.MoveLemmas.{some-found}
use Rattle.entry_counts.proofs.CountingLemmas.{part-told, told-edited}
use Rattle.tree_counts.proofs.counting.with_share.Goals as goal

pub replaced-requires-clause-part : goal.replaced-requires-clause-part
replaced-requires-clause-part c =
    let s = c.args.tree.now.state in
    let entry = some-found s.entries c.args.entry c.requires.there in
    part-told s c.small_counts.ensures.layout c.args.entry entry.0 entry.1 c.small_counts.result c.share.result c.small_counts.ensures.counts (c.share.ensures entry.0 entry.1)

pub returns : goal.returns
returns c = λ edit kind each.
    let s = c.args.tree.now.state in
    let entry = some-found s.entries c.args.entry c.requires.there in
    told-edited s c.small_counts.ensures.layout c.args.entry entry.0 entry.1 c.small_counts.result c.share.result c.small_counts.ensures.counts (c.share.ensures entry.0 entry.1) edit c.replaced.result c.args.new kind (each entry.0 entry.1) c.replaced.ensures
