use Rattle.std.proofs.Common.{◌≡◌, ◌+◌, ◌≤◌, length}
use Rattle.hac_model.specs.Spaces.Catalogue.{catalogue, with_lines}
use Rattle.sem_mounts.proofs.catalogues.read_texts.Given as goal

-- the lines that are left, among the documents so far, give what all lines give; and there are no
-- more lines than bytes
abbrev pub invariant-loop-line : goal.invariant-loop-line
invariant-loop-line l =
    (goal.iterator-loop-line).can_next l.line-iterator
    × (goal.iterator-loop-line).is_finite l.line-iterator
    × (catalogue l.fn.bytes ≡ with_lines l.number l.room l.line-iterator l.documents)
    × (l.number + length l.line-iterator ≤ length l.fn.bytes + 1)
