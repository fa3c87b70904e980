use Rattle.std.proofs.Common.{◌≡◌, List, ap, sym, ◌∙◌}
use Rattle.std.specs.Prelude.{flat_map}
use Rattle.std.proofs.lemmas.Result.{IfOk-weaker}
use Rattle.reeval.specs.declared.settling.Stop.{Stop}
use Rattle.reindex.specs.Ways.{begun_at, begun_there, needed}
use Rattle.reindex.proofs.PlaceLemmas.{picked}
use Rattle.reindex.proofs.ways.stops_begun.Goals as goal

pub returns-else-way : goal.returns-else-way
returns-else-way c begins are =
    let stops = c.args.way.now.stops.items in
    let places = c.args.places.now in
    IfOk-weaker c.stops_there.result (λ begun. begun.items ≡ flat_map (begun_there c.as_slice-else-way.result.now) places) (λ begun. begun.items ≡ needed (begun_at begins stops))
    (λ begun is.
    is
    ∙ ap (λ (stops : List Stop). flat_map (begun_there stops) places) c.as_slice-else-way.ensures.value
    ∙ picked begins stops places are (sym c.requires.leans ∙ c.if-way.false))
    c.stops_there.ensures
