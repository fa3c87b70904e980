use Rattle.std.proofs.Common.{◌≡◌, ◌++◌, map}
use Rattle.std.specs.Vec.Iter.{into_iter_items}
use Rattle.hac_model.specs.Payload.States.{document_entry}
use Rattle.snapshots.proofs.restoring.push_entries.Given as goal

-- the entries so far, and those of the documents that are left
abbrev pub invariant-loop-document : goal.invariant-loop-document
invariant-loop-document l =
    l.entries.items ++ map (document_entry l.parent) (into_iter_items l.document-iterator)
    ≡ l.initial.entries.items ++ map (document_entry l.parent) (into_iter_items l.initial.document-iterator)
