-- What a run starts from, and what its store has room for.
use Rattle.std.specs.Prelude.{ℕ, ◌+◌, nat_lt, Bool, true, List, [], ◌∷◌, length}
use Rattle.hac_model.specs.Tree.Events.{apply_all}
use Rattle.hac_model.specs.Payload.Payloads.{event_text}
use Rattle.hac_model.specs.Tree.Sessions.{sessionless}
use Rattle.hac_model.specs.Tree.{empty}
use Rattle.hac_model.specs.Versions.{store_limit}
use Rattle.hac_model.specs.declared.events.Event.{Event}
use Rattle.hac_model.specs.declared.states.State.{State}
use Rattle.hac_model.specs.declared.versions.Version.{Version}

-- what a run starts from: a state, and of its store where the live area begins, where its log ends, and how often a
-- root was written
pub record Setting : Type 0 where
  pub state : State
  pub start : ℕ
  pub end : ℕ
  pub generation : ℕ

-- a new store holds the root alone
abbrev pub new_setting : Setting
new_setting = record { state = empty; start = 64; end = 64; generation = 1 }

-- what its store holds: no session
abbrev pub stored_setting : Setting → Setting
stored_setting setting = record setting { state = sessionless setting.state }

-- where a log that ends here ends once it holds the records of events too: of each a gate, the payload's length in four
-- bytes, the payload
abbrev pub end_behind : Version → ℕ → List Event → ℕ
end_behind version end [] = end
end_behind version end (event ∷ events) = end_behind version (end + 5 + length (event_text version event)) events

-- where the log of a store ends then
abbrev pub end_after : Setting → List Event → ℕ
end_after setting events = end_behind setting.state.version setting.end events

-- the setting after events have happened and are stored
abbrev pub after_events : Setting → List Event → Setting
after_events setting events = record setting { state = apply_all setting.state events; end = end_after setting events }

-- the records of events, and the closed gate behind them, lie within the limit of the store
abbrev pub have_room : Setting → List Event → Bool
have_room setting [] = true
have_room setting events = nat_lt (end_after setting events) (store_limit setting.state.version)
