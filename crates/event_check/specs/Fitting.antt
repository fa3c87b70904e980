-- Whether an event that no command made can happen.
use Rattle.std.specs.Prelude.{◌≡◌, Bool, ◌&&◌, true, false, is_none, IsTrue, Option, None, Some}
use Rattle.hac_model.specs.Tree.Events.{accepted, apply}
use Rattle.hac_model.specs.Tree.Kinds.{is_prohibited}
use Rattle.hac_model.specs.Tree.Limits.{answer_limits, counts, first_passed, layout_limits}
use Rattle.hac_model.specs.Tree.Links.{has, transient_at}
use Rattle.hac_model.specs.declared.counts.Counts.{Counts}
use Rattle.hac_model.specs.declared.events.Event.{Event}
use Rattle.hac_model.specs.declared.events.Event.TheVariants.{Smkdir, Setq, Mark, Smount, Ssync}
use Rattle.hac_model.specs.declared.states.State.{State}
use Rattle.hac_model.specs.declared.versions.Version.{Version}

-- the counts exceed no limit of a version
abbrev pub passes_none : Version → Counts → Bool
passes_none version counts =
    is_none (first_passed (layout_limits version counts)) && is_none (first_passed (answer_limits version counts))

-- the event asks spaces, or has what one told
abbrev pub asks_spaces : Event → Bool
asks_spaces (Smkdir dir name query told) = true
asks_spaces (Setq dir query told) = true
asks_spaces (Smount dir name space documents told) = true
asks_spaces (Ssync mount documents told) = true
asks_spaces other = false

-- the event prohibits an item that the directory finds
abbrev pub prohibits_found : State → Event → Bool
prohibits_found s (Mark mark) = is_prohibited mark.kind && has (transient_at s mark.dir) mark.item
prohibits_found s other = false

-- the event can happen, and the state then holds so much; or it can't
abbrev pub FitsAs : State → Event → Option Counts → Type 0
FitsAs s event None = accepted s event ≡ false
FitsAs s event (Some held) = IsTrue (accepted s event) × (held ≡ counts (apply s event))
