use Rattle.hac_model.proofs.SpellingLemmas.{lines-spell}
use Rattle.hac_model.proofs.laws.lines_spell.Goals as goal

pub returns : goal.returns
returns c = lines-spell
