-- What a call answers that reads a path word.
use Rattle.std.specs.Prelude.{◌≡◌, ⊤, ◌+◌, ◌==◌, if◌then◌else◌, ℕ, List, [], ◌∷◌, ◌++◌, length, Result, Err}
use Rattle.hac_model.specs.Run.Answers.{Gives}
use Rattle.hac_model.specs.Tree.Paths.{without_last}
use Rattle.hac_model.specs.Script.PathWords.{is_idle, is_up}
use Rattle.hac_model.specs.declared.limits.LimitWord.TheVariants as limit
use Rattle.hac_model.specs.declared.paths.PathWord.{PathWord}
use Rattle.hac_model.specs.declared.replies.Refusal.{Refusal}
use Rattle.hac_model.specs.declared.replies.Refusal.TheVariants.{BadName, Limit}
use Rattle.hac_names.specs.declared.reading.NameFault.{NameFault}
use Rattle.hac_names.specs.declared.reading.NameFault.TheVariants as fault

-- the fault is for the refusal that is wanted; memory may run out in place of any answer
abbrev pub IsNameFault : {A : Type 0} → NameFault → Result A Refusal → Type 0
IsNameFault fault.Bad wanted = wanted ≡ Err BadName
IsNameFault fault.Limit wanted = wanted ≡ Err (Limit limit.Name)
IsNameFault fault.Memory wanted = ⊤

-- the call gave what is wanted, the value or the fault
abbrev pub ReadsWord : {A : Type 0} → Result A NameFault → Result A Refusal → Type 0
ReadsWord result wanted = Gives IsNameFault result wanted

-- a relative word led on by a part behind it: a `..` removes the name before it, and leads up where none is left
abbrev pub walked : PathWord → List ℕ → PathWord
walked word part =
    if is_idle part then word
    else (if is_up part then (if length word.names == 0 then record word { ups = word.ups + 1 } else record word { names = without_last 1 word.names })
    else record word { names = word.names ++ part ∷ [] })
