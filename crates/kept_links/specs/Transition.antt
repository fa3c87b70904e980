-- An event, and the states before it and behind it.
use Rattle.std.specs.Prelude.{◌≡◌, IsTrue}
use Rattle.hac_model.specs.Tree.Events.{accepted, apply}
use Rattle.hac_model.specs.declared.events.Event.{Event}
use Rattle.hac_model.specs.declared.states.State.{State}
use Rattle.kept_links.specs.declared.transition.Transition.{Transition}

-- the state before the event, and the event
abbrev pub before : Transition → State
before transition = transition.before.now.state

abbrev pub event_of : Transition → Event
event_of transition = transition.event.now

-- the event can happen, and leads from the one state to the other
pub record IsTransition (transition : Transition) : Type 0 where
  pub accepted : IsTrue (accepted (before transition) (event_of transition))
  pub leads : transition.after.now ≡ apply (before transition) (event_of transition)
