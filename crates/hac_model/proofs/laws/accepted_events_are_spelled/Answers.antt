use Rattle.hac_model.proofs.SpelledLemmas.{accepted-spelled}
use Rattle.hac_model.proofs.laws.accepted_events_are_spelled.Goals as goal

pub returns : goal.returns
returns c = accepted-spelled
