-- What calls answer that read a log.
use Rattle.std.specs.Prelude.{◌≡◌, ⊤, ℕ, List, Result, Ok, Err}
use Rattle.hac_checkpoint.specs.Roots.{placed}
use Rattle.hac_checkpoint.specs.declared.heads.Stop.{Stop}
use Rattle.hac_checkpoint.specs.declared.heads.Stop.TheVariants as stop
use Rattle.hac_model.specs.declared.states.State.{State}
use Rattle.hac_store.specs.Held.{Led, log}
use Rattle.hac_store.specs.declared.areas.Begun.{Begun}
use Rattle.hac_store.specs.declared.fault.StoreFault.{StoreFault}
use Rattle.hac_store.specs.declared.fault.StoreFault.TheVariants.{NotStore, Memory}

-- the record led to this state, or the fault is for it; memory may run out in place of anything
abbrev pub Judges : Result Unit StoreFault → State → Result State Stop → Type 0
Judges (Ok _) new wanted = wanted ≡ Ok new
Judges (Err (NotStore at)) new wanted = wanted ≡ Err (stop.BadAt at)
Judges (Err Memory) new wanted = ⊤
Judges (Err other) new wanted = ⊥

-- the log led to this state and ends there, or its first wrong byte is at this place
abbrev pub ReadsLog : Result ℕ StoreFault → State → List ℕ → Result Led Stop → Type 0
ReadsLog (Ok end) new file wanted = wanted ≡ Ok (record { state = new; end = end })
ReadsLog (Err (NotStore at)) new file wanted = placed file wanted ≡ Err at
ReadsLog (Err other) new file wanted = ⊤

-- the payload holds this state, or the fault is for it; memory may run out in place of anything
abbrev pub JudgesState : Result State StoreFault → Result State Stop → Type 0
JudgesState (Ok state) wanted = wanted ≡ Ok state
JudgesState (Err (NotStore at)) wanted = wanted ≡ Err (stop.BadAt at)
JudgesState (Err Memory) wanted = ⊤
JudgesState (Err other) wanted = ⊥

-- an area holds what its log makes of this state from that place on, or its first wrong byte is at this place
abbrev pub BeginsArea : Result Begun StoreFault → List ℕ → Result Led Stop → Type 0
BeginsArea (Ok begun) file wanted = wanted ≡ log begun.replay begun.at file
BeginsArea (Err (NotStore at)) file wanted = placed file wanted ≡ Err at
BeginsArea (Err other) file wanted = ⊤
