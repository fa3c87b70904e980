use Rattle.std.proofs.Common.{◌∙◌}
use Rattle.entry_counts.proofs.CountingLemmas.{part-replaced}
use Rattle.entry_counts.proofs.shares.replaced.Goals as goal

pub minus-requires : goal.minus-requires
minus-requires c = let parts = part-replaced c.args.counts c.args.new c.args.old c.requires.part in (parts.0, c.plus.ensures ∙ parts.1)
