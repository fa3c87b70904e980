use Rattle.std.proofs.Common.{◌∙◌}
use Rattle.layout_check.proofs.LimitLemmas.{bounded-same}
use Rattle.layout_check.proofs.RiseLemmas.{rises}
use Rattle.layout_check.proofs.counting.counts_of.Goals as goal

pub counts-requires : goal.counts-requires
counts-requires c = rises 0 c.args.state.now.entries c.args.state.now.next c.requires.numbers

pub returns : goal.returns
returns c = c.counts.ensures ∙ bounded-same c.args.state.now c.requires
