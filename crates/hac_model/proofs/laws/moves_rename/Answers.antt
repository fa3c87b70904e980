use Rattle.hac_model.proofs.MoveLemmas.{moves-rename}
use Rattle.hac_model.proofs.laws.moves_rename.Goals as goal

pub returns : goal.returns
returns c = λ s entry dir name number h ok there. moves-rename s entry dir name number h.layout ok there
