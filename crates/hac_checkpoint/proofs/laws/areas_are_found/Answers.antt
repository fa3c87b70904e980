use Rattle.hac_checkpoint.proofs.ApartLemmas.{areas-are-found}
use Rattle.hac_checkpoint.proofs.laws.areas_are_found.Goals as goal

pub returns : goal.returns
returns c = areas-are-found
