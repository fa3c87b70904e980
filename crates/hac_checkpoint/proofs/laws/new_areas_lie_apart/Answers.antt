use Rattle.hac_checkpoint.proofs.ApartLemmas.{new-areas-lie-apart, writes-leave-areas, writes-leave-roots}
use Rattle.hac_checkpoint.proofs.laws.new_areas_lie_apart.Goals as goal

pub returns-clause-apart : goal.returns-clause-apart
returns-clause-apart c = new-areas-lie-apart

pub returns-clause-root : goal.returns-clause-root
returns-clause-root c = writes-leave-roots

pub returns-clause-area : goal.returns-clause-area
returns-clause-area c = writes-leave-areas
