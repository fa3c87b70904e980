use Rattle.std.proofs.Common.{ℕ, List, Some, subst, sym}
use Rattle.std.specs.Prelude.{map}
use Rattle.hac_model.specs.Tree.Links.{query_at}
use Rattle.query_index.specs.Numbers.{AreThose}
use Rattle.reeval.specs.Routes.{dirs_of}
use Rattle.reindex.specs.Steps.{may_begin, may_differ}
use Rattle.reindex.specs.Ways.{begins_there}
use Rattle.reindex.proofs.PlaceLemmas.{places-begin}
use Rattle.reindex.proofs.texts.stops_changed.Goals as goal

pub returns : goal.returns
returns c s index =
    let stops = c.args.way.now.stops.items in
    let old = c.args.old.now in
    let new = c.args.new.now in
    c.stops_begun.ensures (may_begin s (Some old) new)
    (subst (λ (places : List ℕ). AreThose (begins_there (may_begin s (Some old) new) stops) places) (sym c.as_slice.ensures.value)
    (places-begin s (may_differ (Some old) new) stops c.in_ok-places.places.items (c.in_ok-places.ensures (map (query_at s) (dirs_of stops)) index)))
