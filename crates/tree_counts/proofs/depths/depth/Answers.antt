use Rattle.std.proofs.Common.{ap, ◌∙◌, length, sym}
use Rattle.hac_model.proofs.PathLemmas.{length-path, lineage-steps}
use Rattle.tree_counts.proofs.depths.depth.Goals as goal

pub returns-clause-depth : goal.returns-clause-depth
returns-clause-depth c = c.count_ancestors.ensures.ancestors ∙ ap length (lineage-steps c.args.tree.now.state.entries c.args.entry) ∙ sym (length-path c.args.tree.now.state c.args.entry)
