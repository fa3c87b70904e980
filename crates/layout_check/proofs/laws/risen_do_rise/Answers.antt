use Rattle.layout_check.proofs.RiseLemmas.{rises}
use Rattle.layout_check.proofs.laws.risen_do_rise.Goals as goal

pub returns : goal.returns
returns c = rises
