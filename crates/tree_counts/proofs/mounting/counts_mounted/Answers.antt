use Rattle.std.proofs.Common.{◌+◌, refl, sym, ◌∙◌}
use Rattle.std.specs.Prelude.{not}
use Rattle.hac_model.specs.Tree.Limits.{counts}
use Rattle.hac_model.specs.declared.states.Body.TheVariants.{Mount}
use Rattle.entry_counts.specs.Counting.{one_if, plus, share_of}
use Rattle.tree_counts.proofs.DeepLemmas.{counts-mounted}
use Rattle.tree_counts.proofs.mounting.counts_mounted.Goals as goal

pub returns : goal.returns
returns c = λ name space answers documents is.
    let s = c.args.tree.now.state in
    let short = c.has_room-is_long.result in
    c.plus.ensures
    ∙ (λ i. plus (c.small_counts.ensures.counts i) (c.of_mount_with.ensures.counts space answers i))
    ∙ (λ i. plus (counts s) (record (share_of (Mount space answers)) { items = sym is i; long_paths = one_if (not short); next = 1 + sym is i }))
    ∙ sym (counts-mounted s c.small_counts.ensures.layout c.args.dir c.requires.dir name space answers documents short (c.has_room-is_long.ensures name (Mount space answers) refl))
