use Rattle.std.specs.Prelude.{◌<◌, ◌≤◌, IsTrue, max, take}
use Rattle.std.specs.List.{AllByRecursion}
use Rattle.link_kinds.specs.Seen.{SameKinds, has_sets}
use Rattle.reeval.specs.Settled.{AreSetsFor}
use Rattle.reeval.proofs.applying.reserve.Given as goal

-- the directories so far have their sets, and no others have got some, and there is room for all, and for no more
abbrev pub invariant-loop-change : goal.invariant-loop-change
invariant-loop-change l =
    SameKinds l.fn.found l.found × (AllByRecursion (λ change. IsTrue (has_sets l.found change.dir)) (take l.change-index l.delta)) × (0 < l.change-index → l.calls ≤ l.found.spare) × (l.found.spare ≤ max l.fn.found.spare l.calls) × AreSetsFor l.fn.found l.found l.delta
