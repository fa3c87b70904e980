-- How many questions for terms reading a store may take.
use Rattle.std.specs.Prelude.{ℕ, ◌+◌, List, None, Some, Result, Ok, Err}
use Rattle.std.specs.declared.option.Option.{Option}
use Rattle.hac_checkpoint.specs.declared.heads.Stop.{Stop}
use Rattle.hac_journal.specs.Logs.{Log, log_at, payloads_of}
use Rattle.hac_model.specs.Run.History.{Fault, History, fault_cost, history, replay_cost, replay_costs}
use Rattle.hac_model.specs.Tree.Costs.{opening}
use Rattle.hac_model.specs.Tree.Events.{apply_all}
use Rattle.hac_model.specs.declared.events.Event.{Event}
use Rattle.hac_model.specs.declared.states.State.{State}
use Rattle.hac_store.specs.Held.{LiveArea, area_in, live_area}

-- what a payload costs, where it spells an event
abbrev pub judging : State → Result Event ℕ → ℕ
judging s (Err offset) = 0
judging s (Ok event) = replay_cost s event

-- what the end of a log costs: behind its closed gate all links are found. One that ends too early is no store's, and so is
-- one with a wrong record.
abbrev pub end_cost : State → Option ℕ → Option Fault → ℕ
end_cost s end (Some fault) = fault_cost s fault
end_cost s (Some end) None = opening s
end_cost s None None = 0

abbrev pub cost_with : State → Option ℕ → History → ℕ
cost_with s end story = replay_costs s story.events + end_cost (apply_all s story.events) end story.fault

-- what a log costs from a state on
abbrev pub cost_by : State → Log → ℕ
cost_by s log = cost_with s log.end (history s (payloads_of log.records))

-- the same of the log that a file has from a gate on
unfoldable pub replaying : State → ℕ → List ℕ → ℕ
replaying s at file = cost_by s (log_at at file)

-- what an area costs, if there is one
abbrev pub area_cost : Result LiveArea Stop → ℕ
area_cost (Err why) = 0
area_cost (Ok live) = cost_by live.base live.log

-- the same of an area that begins at a gate of a file
unfoldable pub loading_area : ℕ → List ℕ → ℕ
loading_area at file = area_cost (area_in (log_at at file))

-- a store that a file holds, or what was read of it before its first wrong byte
unfoldable pub loading : List ℕ → ℕ
loading file = area_cost (live_area file)
