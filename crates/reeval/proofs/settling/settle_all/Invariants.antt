use Rattle.std.specs.Prelude.{◌≤◌, ◌+◌, ◌*◌, ℕ, drop, length}
use Rattle.hac_model.specs.Tree.Depends.{Among}
use Rattle.reeval.specs.Probes.{terms_along, terms_settled}
use Rattle.reeval.specs.Routes.{Covers}
use Rattle.reeval.proofs.SeveralLemmas.{PartlySettled}
use Rattle.reeval.proofs.settling.settle_all.Given as goal

-- the items so far are settled, and the questions for those that are left can still be asked
abbrev pub invariant-loop-item : goal.invariant-loop-item
invariant-loop-item g l =
    (PartlySettled (g.B.Before.state l.before) (g.Y.Layout.state l.layout) l.stops l.items (drop l.item-index l.items) l.fn.delta.items l.delta.items) × (
    l.probes + length (drop l.item-index l.items) * terms_along (g.Y.Layout.state l.layout) l.stops ≤ l.fn.probes + length l.items * terms_along (g.Y.Layout.state l.layout) l.stops) × (
    ((item : ℕ) → Among l.items item → Covers (g.B.Before.state l.before) (g.Y.Layout.state l.layout) l.stops item)
    → l.probes + terms_settled (g.B.Before.state l.before) (g.Y.Layout.state l.layout) l.stops (drop l.item-index l.items)
    ≤ l.fn.probes + terms_settled (g.B.Before.state l.before) (g.Y.Layout.state l.layout) l.stops l.items)
