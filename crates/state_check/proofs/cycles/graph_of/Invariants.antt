use Rattle.std.proofs.Common.{◌≡◌, ℕ}
use Rattle.std.specs.Prelude.{drop}
use Rattle.dep_graph.specs.Graphs.{edges_of}
use Rattle.state_check.proofs.EdgeLemmas.{edges_left}
use Rattle.state_check.proofs.cycles.graph_of.Given as goal

-- those that are left have no edges yet, and all others have theirs
abbrev pub invariant-loop-entry : goal.invariant-loop-entry
invariant-loop-entry l = (q : ℕ) → edges_of l.graph q ≡ edges_left l.state (drop l.entry-index l.entries) q
