use Rattle.std.proofs.Common.{sym, ◌∙◌}
use Rattle.kept_links.proofs.TaskLemmas.{begun-others, only-if}
use Rattle.kept_links.proofs.tasks.stops_of_touched.Goals as goal

pub returns-in-Mark : goal.returns-in-Mark
returns-in-Mark c =
    only-if c.args.event.now c.in-Mark.mark c.as_slice.result.now c.args.way.now.stops.items c.stops_only.result c.in-Mark.is c.as_slice.ensures.value c.stops_only.ensures

pub returns-in_ok-from_slice-in_default : goal.returns-in_ok-from_slice-in_default
returns-in_ok-from_slice-in_default c =
    c.in_ok-from_slice-in_default.ensures.items ∙ c.as_slice-in_default.ensures.value
    ∙ sym (begun-others c.requires.0 c.args.event.now c.args.way.now c.requires.1 c.in_default.not-Mark)
