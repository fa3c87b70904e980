use Rattle.snapshots.proofs.SnapshotLemmas.{snapshots-restore}
use Rattle.snapshots.proofs.laws.snapshots_restore.Goals as goal

pub returns : goal.returns
returns c = snapshots-restore
