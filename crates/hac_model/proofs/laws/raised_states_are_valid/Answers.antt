use Rattle.hac_model.proofs.RaisedLemmas.{links-raised, raised-valid}
use Rattle.hac_model.proofs.laws.raised_states_are_valid.Goals as goal

pub returns-clause-valid : goal.returns-clause-valid
returns-clause-valid c = raised-valid

pub returns-clause-links : goal.returns-clause-links
returns-clause-links c = links-raised
