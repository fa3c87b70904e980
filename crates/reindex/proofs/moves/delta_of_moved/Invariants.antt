use Rattle.std.specs.Prelude.{◌≤◌, ◌+◌, ◌*◌, drop, length, take}
use Rattle.hac_model.specs.Tree.Costs.{weight}
use Rattle.reindex.specs.Steps.{AreSettled}
use Rattle.reindex.proofs.moves.delta_of_moved.Given as goal

-- the items so far are settled, and those that are left may still be judged
abbrev pub invariant-loop-item : goal.invariant-loop-item
invariant-loop-item g l =
    AreSettled l.past (g.Y.Layout.state l.layout) (take l.item-index l.items) l.delta.items
    × (l.probes + length (drop l.item-index l.items) * weight (g.Y.Layout.state l.layout) ≤ l.fn.probes + length l.items * weight (g.Y.Layout.state l.layout))
