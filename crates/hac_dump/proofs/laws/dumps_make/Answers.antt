use Rattle.hac_dump.proofs.TextLemmas.{dumps-make}
use Rattle.hac_dump.proofs.laws.dumps_make.Goals as goal

pub returns : goal.returns
returns c = dumps-make
