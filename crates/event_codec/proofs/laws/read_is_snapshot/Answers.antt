use Rattle.event_codec.proofs.SnapshotLemmas as snapshots
use Rattle.event_codec.proofs.laws.read_is_snapshot.Goals as goal

pub returns : goal.returns
returns c = snapshots.read_is_snapshot
