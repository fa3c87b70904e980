use Rattle.hac_model.proofs.PlayLemmas.{events-end, events-lead}
use Rattle.hac_model.proofs.laws.events_lead.Goals as goal

pub returns-clause-state : goal.returns-clause-state
returns-clause-state c = events-lead

pub returns-clause-end : goal.returns-clause-end
returns-clause-end c = events-end
