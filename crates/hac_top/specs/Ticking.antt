-- The index steps that follow each command by themselves.
use Rattle.std.specs.Prelude.{ℕ, List, []}
use Rattle.std.specs.List.{flat_map}
pub use Rattle.hac_model.specs.Run.Play.{ticking}
use Rattle.hac_model.specs.Run.Play.{Setting, Turn, turn_of}
use Rattle.hac_model.specs.declared.events.Event.{Event}
use Rattle.hac_model.specs.declared.replies.Reply.{Reply}

-- the turn that gives this reply, stores nothing before it, and has its steps behind it
abbrev pub told_turn : ℕ → Setting → Reply → Turn
told_turn tick setting reply = turn_of (ticking tick) reply [] setting

-- the events of the commands alone, without the steps behind them
abbrev pub command_events : List Turn → List Event
command_events turns = flat_map (λ turn. turn.events) turns
