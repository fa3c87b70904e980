-- What is judged again after an event.
use Rattle.std.specs.Prelude.{◌≡◌, ◌≢◌, ◌≤◌, ◌==◌, ℕ, Bool, true, false, List, [], ◌∷◌}
use Rattle.dep_graph.specs.Searches.{EachOnce, IsCone}
use Rattle.hac_model.specs.Tree.Costs.{cost}
use Rattle.hac_model.specs.Tree.Depends.{Among, depends}
use Rattle.hac_model.specs.Tree.Events.{apply}
use Rattle.hac_model.specs.declared.events.Event.{Event}
use Rattle.hac_model.specs.declared.events.Event.TheVariants.{Mark}
use Rattle.hac_model.specs.declared.states.State.{State}
use Rattle.reeval.specs.Probes.{terms_planned}
use Rattle.reeval.specs.Settled.{IsPlanned}
use Rattle.reeval.specs.declared.planning.Task.{Task}
use Rattle.reeval.specs.declared.settling.Stop.{Stop}
use Rattle.reindex.specs.Ways.{IsWayOver, stops_from, with_first}
use Rattle.reindex.specs.declared.ways.Way.{Way}

-- the way was found for the state behind an event: from one directory and from all that were semantic, over the edges as
-- they will be
pub record IsWayFrom (s t : State) (first : ℕ) (way : Way) : Type 0 where
  pub dirs : List ℕ
  pub order : List ℕ
  pub here : Among dirs first
  pub known : (dir : ℕ) → depends s dir ≢ [] → Among dirs dir
  pub cone : IsCone (depends t) dirs order
  pub over : IsWayOver t order way

-- the stops are at one directory, where judging begins, and at those that depend on it, in order; where it ties, only what
-- is lent to the first may be new there
pub record AreAlong (t : State) (first : ℕ) (ties : Bool) (stops : List Stop) : Type 0 where
  pub cone : List ℕ
  pub reach : IsCone (depends t) (first ∷ []) cone
  pub are : stops ≡ stops_from first ties (with_first first cone)

-- judging of an item that the event touches begins at the directory: a mark tells of its own alone
abbrev pub begins_touched : Event → ℕ → Bool
begins_touched (Mark mark) dir = dir == mark.dir
begins_touched other dir = true

-- where the event begins at a directory, it changes there only what is lent to it: a mark does
abbrev pub is_tie : Event → Bool
is_tie (Mark mark) = true
is_tie other = false

-- the task has each item once, and all that an event wants judged, for no more questions than the event may take
pub record IsTaskOf (s : State) (event : Event) (task : Task) : Type 0 where
  pub touched : EachOnce task.touched.items
  pub others : EachOnce task.others.items
  pub apart : (item : ℕ) → Among task.touched.items item → Among task.others.items item → ⊥
  pub planned : IsPlanned s (apply s event) task
  pub most : terms_planned s (apply s event) task ≤ cost s event
