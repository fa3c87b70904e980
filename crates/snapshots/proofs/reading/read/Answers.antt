use Rattle.std.proofs.Common.{sym, ◌∙◌}
use Rattle.hac_model.proofs.ValidTestLemmas.{valid-Decides}
use Rattle.snapshots.proofs.ReadLemmas.{told-alone}
use Rattle.snapshots.proofs.reading.read.Goals as goal

pub is_valid-requires : goal.is_valid-requires
is_valid-requires c = record { sessions = told-alone c.args.snapshot c.in_ok-state.state c.in_ok-state.ensures }

pub load-requires-clause-valid : goal.load-requires-clause-valid
load-requires-clause-valid c = (valid-Decides c.in_ok-state.state).0 (sym c.in-Ok-true.ensures ∙ c.in-Ok-true.field-0-test)

pub load-requires-clause-sessions : goal.load-requires-clause-sessions
load-requires-clause-sessions c = told-alone c.args.snapshot c.in_ok-state.state c.in_ok-state.ensures
