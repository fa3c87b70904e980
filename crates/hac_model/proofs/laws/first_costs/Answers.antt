use Rattle.std.proofs.Common.{refl}
use Rattle.hac_model.specs.Tree.Links.{links}
use Rattle.hac_model.specs.Tree.{lineage, path_of}
use Rattle.hac_model.specs.Query.Words.{has_term, is_word_byte, words}
use Rattle.hac_model.proofs.laws.first_costs.Goals as goal

pub returns : goal.returns
unfolding has_term is_word_byte lineage links path_of words
returns c = (refl, refl, refl, refl, refl)
