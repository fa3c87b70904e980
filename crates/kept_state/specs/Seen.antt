-- What callers see of a kept state.
use Rattle.std.specs.Prelude.{refl, List}
use Rattle.std.specs.Coded.{Coded, code_by, coded×, coded_list}
use Rattle.hac_model.specs.declared.events.Event.{Event}
use Rattle.hac_model.specs.contracts.events.Event as event
use Rattle.hac_model.specs.declared.states.State.{State}
use Rattle.hac_model.specs.contracts.states.State as state

-- the state, and the events that it is ready for
pub record Seen : Type 0 where
  pub state : State
  pub ready : List Event

abbrev pub seen_code : Coded Seen
seen_code = code_by (State × List Event) (coded× state.the_row.coded (coded_list event.the_row.coded)) (λ seen. (seen.state, seen.ready)) (λ parts. record { state = parts.0; ready = parts.1 }) (λ _. refl)
