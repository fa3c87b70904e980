use Rattle.hac_model.proofs.SpelledLemmas.{not-stored, stored-follows}
use Rattle.hac_model.proofs.laws.sessions_are_not_stored.Goals as goal

pub returns : goal.returns
returns c = record { same = not-stored; raised = λ s event valid kept happens. stored-follows s event kept happens }
