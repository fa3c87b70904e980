use Rattle.std.proofs.Common.{◌≡◌, ◌-◌, ◌≤◌}
use Rattle.std.specs.List.{flat_map, range_with_len}
use Rattle.tree_answers.proofs.NextLinkLemmas.{line_of}
use Rattle.tree_answers.proofs.lines_of_links.link_lines.Given as goal

-- the lines of the numbers so far, of which none is past the next
abbrev pub invariant-links : goal.invariant-links
invariant-links l = (l.from ≤ l.linked.state.next) × (l.lines.items ≡ flat_map (line_of l.linked.state l.dir) (range_with_len 0 l.from))

abbrev pub decreases-links : goal.decreases-links
decreases-links l = l.linked.state.next - l.from
