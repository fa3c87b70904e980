use Rattle.hac_model.proofs.WholeLemmas.{whole-lines, whole-front, whole-longest}
use Rattle.hac_model.proofs.laws.whole_is_longest.Goals as goal

pub returns-clause-lines : goal.returns-clause-lines
returns-clause-lines c = whole-lines

pub returns-clause-front : goal.returns-clause-front
returns-clause-front c = whole-front

pub returns-clause-longest : goal.returns-clause-longest
returns-clause-longest c = whole-longest
