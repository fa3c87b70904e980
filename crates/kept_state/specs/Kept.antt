-- How a state is kept, and what is ready.
use Rattle.hac_model.specs.Laws.{AllHappen}
use Rattle.kept_state.specs.Parts.{IsLinked, state_of}
use Rattle.kept_state.specs.Ready.{IsReady, ready_events}
use Rattle.kept_state.specs.Seen.{Seen}
use Rattle.kept_state.specs.declared.kept.KeptState.TheInside.{Inside}

abbrev pub seen_of : Inside → Seen
seen_of kept = record { state = state_of kept.parts; ready = ready_events kept.ready }

-- the parts fit, and what is ready can happen
pub record IsKept (kept : Inside) : Type 0 where
  pub linked : IsLinked kept.parts
  pub ready : IsReady kept.ready kept.parts
  pub happen : AllHappen (state_of kept.parts) (ready_events kept.ready)
