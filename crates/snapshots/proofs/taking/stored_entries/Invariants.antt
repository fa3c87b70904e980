use Rattle.std.proofs.Common.{◌≡◌, ◌++◌, flat_map}
use Rattle.std.specs.Vec.Iter.{into_iter_items}
use Rattle.hac_model.specs.Payload.States.{snapshot_of}
use Rattle.snapshots.specs.Taking.{stored_at}
use Rattle.snapshots.proofs.taking.stored_entries.Given as goal

-- what is stored of the numbers so far, and of those that are left, is all
abbrev pub invariant-loop-number : goal.invariant-loop-number
invariant-loop-number l =
    l.entries.items ++ flat_map (stored_at l.kept.state) (into_iter_items l.number-iterator)
    ≡ (snapshot_of l.kept.state).entries
