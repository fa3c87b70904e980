use Rattle.event_codec.proofs.SnapshotLemmas as snapshots
use Rattle.event_codec.proofs.laws.snapshot_is_read.Goals as goal

pub returns : goal.returns
returns c = snapshots.snapshot_is_read
