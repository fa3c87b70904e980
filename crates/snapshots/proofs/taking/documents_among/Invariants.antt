use Rattle.std.proofs.Common.{◌≡◌, ◌++◌, drop, flat_map}
use Rattle.snapshots.specs.Taking.{document_at}
use Rattle.snapshots.proofs.taking.documents_among.Given as goal

-- the documents so far, and those of the numbers that are left
abbrev pub invariant-numbers : goal.invariant-numbers
invariant-numbers l =
    l.documents.items ++ flat_map (document_at l.tree.state) (drop l.place l.numbers)
    ≡ flat_map (document_at l.tree.state) l.numbers
