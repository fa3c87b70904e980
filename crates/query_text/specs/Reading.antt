-- What a call answers that reads a query.
use Rattle.std.specs.Prelude.{◌≡◌, ⊤, ℕ, Result, Err}
use Rattle.hac_model.specs.Run.Answers.{Gives}
use Rattle.hac_model.specs.declared.reading.Part.{Part}
use Rattle.hac_model.specs.declared.replies.Refusal.{Refusal}
use Rattle.hac_model.specs.declared.replies.Refusal.TheVariants.{BadQuery, Limit}
use Rattle.query_text.specs.declared.faults.QueryFault.{QueryFault}
use Rattle.query_text.specs.declared.faults.QueryFault.TheVariants as fault

-- the fault is for the refusal that is wanted; memory may run out in place of any answer
abbrev pub IsQueryFault : {A : Type 0} → QueryFault → Result A Refusal → Type 0
IsQueryFault (fault.BadAt place) wanted = wanted ≡ Err (BadQuery place)
IsQueryFault (fault.Limit word) wanted = wanted ≡ Err (Limit word)
IsQueryFault fault.Memory wanted = ⊤

-- the call gave what is wanted, the value or the fault
abbrev pub ReadsQuery : {A : Type 0} → Result A QueryFault → Result A Refusal → Type 0
ReadsQuery result wanted = Gives IsQueryFault result wanted

-- the fault is for the place
abbrev pub IsAt : QueryFault → Result Part ℕ → Type 0
IsAt (fault.BadAt place) wanted = wanted ≡ Err place
IsAt (fault.Limit word) wanted = ⊥
IsAt fault.Memory wanted = ⊤

-- the call gave the query that is wanted, or the place of its fault
abbrev pub IsPart : Result Part QueryFault → Result Part ℕ → Type 0
IsPart result wanted = Gives IsAt result wanted
