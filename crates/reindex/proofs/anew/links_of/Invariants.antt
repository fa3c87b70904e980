use Rattle.std.specs.Prelude.{◌+◌, ◌*◌, ◌≤◌, filter, length}
use Rattle.hac_model.specs.Tree.Costs.{opening, weight}
use Rattle.hac_model.specs.Tree.Links.{is_item}
use Rattle.file_tree.proofs.LiveLemmas.{IsThrough}
use Rattle.reeval.specs.Settled.{AreSetsAsked}
use Rattle.reindex.specs.Anew.{AreLinksBelow}
use Rattle.reindex.proofs.anew.links_of.Given as goal

-- the links of the items so far, where those that are left may still be judged
abbrev pub invariant-loop-number : goal.invariant-loop-number
invariant-loop-number g l =
    IsThrough (λ number. AreLinksBelow l.kept.state l.found number) l.kept.state.entries l.kept.state.next l.number-iterator.rest.items
    × (l.probes + length (filter (is_item l.kept.state) l.number-iterator.rest.items) * weight l.kept.state ≤ l.fn.probes + opening l.kept.state)
    × AreSetsAsked l.kept.state l.found
