use Rattle.std.proofs.Common.{◌≤◌, ◌-◌, length}
use Rattle.tree_nodes.specs.Nodes.{name_of}
use Rattle.tree_nodes.specs.Search.{NamesRise, rank_in}
use Rattle.tree_nodes.proofs.searching.rank.Given as goal

-- as many names come before this one as are in front of a place from the one to the other
abbrev pub invariant-halves : goal.invariant-halves
invariant-halves l = record {
  low : l.low ≤ l.high;
  high : l.high ≤ length l.numbers;
  rank : NamesRise (name_of l.nodes) l.numbers → (l.low ≤ rank_in (name_of l.nodes) l.name l.numbers) × (rank_in (name_of l.nodes) l.name l.numbers ≤ l.high);
}

abbrev pub decreases-halves : goal.decreases-halves
decreases-halves l = l.high - l.low
