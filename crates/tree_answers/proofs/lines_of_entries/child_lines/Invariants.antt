use Rattle.std.proofs.Common.{◌≡◌, map, take}
use Rattle.tree_answers.proofs.ListingLemmas.{line_at}
use Rattle.tree_answers.proofs.lines_of_entries.child_lines.Given as goal

-- a line for each of the children so far
abbrev pub invariant-entries : goal.invariant-entries
invariant-entries l = l.lines.items ≡ map (line_at l.tree.state) (take l.place l.entries)
