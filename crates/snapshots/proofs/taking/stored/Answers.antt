use Rattle.std.proofs.Common.{◌∙◌}
use Rattle.snapshots.proofs.PartLemmas.{entry-stored}
use Rattle.snapshots.proofs.taking.stored.Goals as goal

pub returns-in-Ok : goal.returns-in-Ok
returns-in-Ok c =
    entry-stored c.args.kept.now.state c.args.number c.in_ok-entry.entry c.new.result c.in_ok-entry.ensures
    (c.new.ensures ∙ c.in-Ok.ensures)
