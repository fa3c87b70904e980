use Rattle.std.specs.Prelude.{◌≡◌, ◌≤◌, ◌+◌, [], drop, false, true}
use Rattle.std.specs.List.{list_all, list_any}
use Rattle.reeval.specs.Judging.{verdict_of}
use Rattle.reeval.specs.Probes.{is_moved, terms_along, terms_asked}
use Rattle.reeval.specs.Routes.{Covers, dirs_of}
use Rattle.reeval.specs.Settled.{AreFresh}
use Rattle.reeval.specs.Told.{is_on, told}
use Rattle.reeval.proofs.NotedLemmas.{Noted}
use Rattle.reeval.proofs.settling.settle.Given as goal

-- The directories so far are settled, and all news are on the item and fresh. The queries of those that are left can still be asked,
-- or those alone by which judging begins, if the item moves nowhere.
abbrev pub invariant-loop-stop : goal.invariant-loop-stop
invariant-loop-stop g l =
    (list_all (is_on l.item) l.news.items ≡ true) × (
    (covers : Covers (g.B.Before.state l.before) (g.Y.Layout.state l.layout) l.stops l.item)
    → (noted : Noted (g.B.Before.state l.before) (g.Y.Layout.state l.layout) l.item l.stops covers l.leans (dirs_of (drop l.stop-index l.stops))
    (told l.news.items (verdict_of (g.B.Before.state l.before) l.item)) l.moved.items) × (
    is_moved (g.B.Before.state l.before) (g.Y.Layout.state l.layout) l.stops l.item ≡ false
    → (noted.all ≡ []) × (l.probes + terms_asked (g.Y.Layout.state l.layout) (drop l.stop-index l.stops) ≤ l.fn.probes + terms_asked (g.Y.Layout.state l.layout) l.stops))) × (
    l.probes + terms_along (g.Y.Layout.state l.layout) (drop l.stop-index l.stops) ≤ l.fn.probes + terms_along (g.Y.Layout.state l.layout) l.stops) × (
    l.leans ≡ list_any (λ stop. stop.leans) l.stops) × (
    Covers (g.B.Before.state l.before) (g.Y.Layout.state l.layout) l.stops l.item → AreFresh (g.B.Before.state l.before) l.news.items)
