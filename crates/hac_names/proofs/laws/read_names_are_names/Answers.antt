use Rattle.hac_model.proofs.WordLemmas.{word_of-names}
use Rattle.hac_names.proofs.laws.read_names_are_names.Goals as goal

pub returns : goal.returns
returns c = word_of-names
