use Rattle.std.proofs.Common.{ap, arith, subst, sym, ◌≤◌, ◌+◌}
use Rattle.hac_model.specs.Tree.Costs.{cost, costs}
use Rattle.hac_core.specs.Drafts.{CanSettle, IsCounted, settled_events}
use Rattle.hac_core.specs.Seen.{Seen}
use Rattle.hac_core.specs.declared.drafts.Settled.{Settled}
use Rattle.hac_core.proofs.machine.Machine.prepare.Goals as goal

pub prepare-requires-clause-counts : goal.prepare-requires-clause-counts
prepare-requires-clause-counts g c =
    let can = subst (λ (settled : Settled). CanSettle c.args.self.now.state settled) c.in-Change.is c.requires in
    subst (λ (seen : Seen). IsCounted seen.state c.in-Change.field-0) (sym c.self.view_is) can.1

pub returns-in-Change-clause-probes : goal.returns-in-Change-clause-probes
returns-in-Change-clause-probes g c =
    let one = ap (λ (settled : Settled). costs c.args.self.now.state (settled_events settled)) c.in-Change.is in
    let more = subst (λ (seen : Seen). c.prepare.new.probes ≤ c.args.probes.now + cost seen.state c.in-Change.field-0.event) c.self.view_is c.prepare.ensures.probes in
    omega (arith, one, more)
