use Rattle.std.proofs.Common.{◌≡◌, ◌++◌, flat_map}
use Rattle.std.specs.Vec.Iter.{into_iter_items}
use Rattle.hac_model.specs.Payload.States.{entries_in}
use Rattle.snapshots.proofs.restoring.all_entries.Given as goal

-- the entries so far, and those that are left
abbrev pub invariant-loop-entry : goal.invariant-loop-entry
invariant-loop-entry l =
    l.entries.items ++ flat_map entries_in (into_iter_items l.entry-iterator)
    ≡ flat_map entries_in (into_iter_items l.initial.entry-iterator)
