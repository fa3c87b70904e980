use Rattle.hac_model.proofs.StateSpellingLemmas.{valid-states-spelled}
use Rattle.hac_model.proofs.laws.valid_states_are_spelled.Goals as goal

pub returns : goal.returns
returns c = valid-states-spelled
