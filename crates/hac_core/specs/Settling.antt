-- What becomes of a change once spaces have answered.
use Rattle.std.specs.Prelude.{if◌then◌else◌, [], ◌∷◌, ◌++◌, Option, None, Some}
use Rattle.std.specs.Option.{option_map}
use Rattle.hac_model.specs.Run.Answers.{first_cause}
use Rattle.hac_model.specs.Run.Refusals.{docs_cause}
use Rattle.hac_model.specs.Tree.Events.{apply}
use Rattle.hac_model.specs.Tree.Limits.{answer_limits, are_answers_few, counts, first_passed, layout_limits, passed_limit}
use Rattle.hac_model.specs.declared.events.Event.{Event}
use Rattle.hac_model.specs.declared.limits.LimitWord.TheVariants.{Answers as AnswersWord}
use Rattle.hac_model.specs.declared.replies.Refusal.{Refusal}
use Rattle.hac_model.specs.declared.replies.Refusal.TheVariants.{Limit}
use Rattle.hac_model.specs.declared.spaces.Answers.{Answers}
use Rattle.hac_model.specs.declared.states.State.{State}
use Rattle.hac_core.specs.Drafts.{answering}
use Rattle.hac_core.specs.declared.drafts.Change.{Change}

-- the change of an event once spaces have answered
abbrev pub answered : State → Answers → Event → Change
answered s answers event = record { event = answering s answers event; counts = counts (apply s (answering s answers event)) }

-- mounts would keep more answers after the event than they may
abbrev pub keeping_cause : State → Event → Option Refusal
keeping_cause s event = if are_answers_few (apply s event).entries then None else Some (Limit AnswersWord)

-- the first limit that the state would exceed after a change
abbrev pub limits_cause : State → Change → Option Refusal
limits_cause s change =
    first_cause (option_map Limit (first_passed (layout_limits s.version change.counts ++ answer_limits s.version change.counts)) ∷ keeping_cause s change.event ∷ [])

-- the first limit that stands against it
abbrev pub settling_cause : State → Answers → Event → Option Refusal
settling_cause s answers event =
    first_cause (docs_cause s answers ∷ option_map Limit (passed_limit (apply s (answering s answers event))) ∷ keeping_cause s (answering s answers event) ∷ [])
