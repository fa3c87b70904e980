use Rattle.std.proofs.Common.{◌+◌, ap, ◌∙◌}
use Rattle.hac_model.specs.declared.counts.Counts.{Counts}
use Rattle.entry_counts.specs.Counting.{one_if}
use Rattle.entry_counts.proofs.shares.of_mount_with.Goals as goal

pub returns-clause-counts : goal.returns-clause-counts
returns-clause-counts c = λ space answers.
    ap (λ (x : Counts). record x { items = c.args.count; next = 1 + c.args.count })
    (c.as_new.ensures.counts ∙ ap (λ (x : Counts). record x { long_paths = one_if c.args.is_long; next = 1 }) (c.of_mount.ensures.share space answers))
