use Rattle.kept_state.proofs.KeptLemmas.{may-put, ready-stored}
use Rattle.kept_state.proofs.ready.put.Goals as goal

pub apply-requires-clause-may : goal.apply-requires-clause-may
apply-requires-clause-may c = may-put c.args.kept.now c.args.ready c.in-Change.event c.in-Change.edges c.in-Change.counts c.requires.linked c.requires.ready c.requires.happen c.in-Change.is

pub apply-requires-clause-stored : goal.apply-requires-clause-stored
apply-requires-clause-stored c = ready-stored c.args.kept.now c.args.ready c.in-Change.event c.in-Change.edges c.in-Change.counts c.requires.ready c.in-Change.is
