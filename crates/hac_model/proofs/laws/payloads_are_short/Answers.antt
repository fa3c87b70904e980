use Rattle.hac_model.proofs.LengthLemmas.{text-fits}
use Rattle.hac_model.proofs.StateLengthLemmas.{states-short}
use Rattle.hac_model.proofs.laws.payloads_are_short.Goals as goal

pub returns-clause-events : goal.returns-clause-events
returns-clause-events c = text-fits

pub returns-clause-states : goal.returns-clause-states
returns-clause-states c = states-short
