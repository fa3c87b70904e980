-- What the calls of a walk answer.
use Rattle.std.specs.Prelude.{◌≡◌, ⊤, ℕ, Bool, List, Option, Some, None, Result, Ok, Err, IsTrue, map}
use Rattle.std.specs.Borrow.{Bor}
use Rattle.hac_model.specs.Run.Answers.{Gives}
use Rattle.hac_model.specs.Tree.{is_directory_at}
use Rattle.hac_model.specs.declared.paths.PathWord.{PathWord}
use Rattle.hac_model.specs.declared.places.Place.{Place}
use Rattle.hac_model.specs.declared.replies.Refusal.{Refusal}
use Rattle.hac_model.specs.declared.replies.Refusal.TheVariants as refusal
use Rattle.hac_model.specs.declared.states.Entry.{Entry}
use Rattle.hac_model.specs.declared.states.State.{State}
use Rattle.command_paths.specs.declared.placing.Met.{Met}
use Rattle.command_paths.specs.declared.placing.Met.TheVariants as met
use Rattle.command_paths.specs.declared.placing.Stop.{Stop}
use Rattle.command_paths.specs.declared.placing.Stop.TheVariants.{Missing, NotDir, Loop, Memory}
use Rattle.command_paths.specs.declared.placing.Walked.{Walked}
use Rattle.command_paths.specs.declared.placing.Walked.TheVariants as walked
use Rattle.command_paths.specs.Traces.{steps}

-- the stop is for the refusal that is wanted; memory may run out in place of any answer
abbrev pub IsPlaceFault : Stop → Result Place Refusal → Type 0
IsPlaceFault (Missing path) wanted = wanted ≡ Err (refusal.NoPath path)
IsPlaceFault (NotDir path) wanted = wanted ≡ Err (refusal.NotDir path)
IsPlaceFault (Loop path) wanted = wanted ≡ Err (refusal.Loop path)
IsPlaceFault Memory wanted = ⊤

-- the look-up gave what is wanted, the place or the stop
abbrev pub Finds : Result Place Stop → Result Place Refusal → Type 0
Finds result wanted = Gives IsPlaceFault result wanted

-- the names that are left, the next one first
abbrev pub names_of : List (Bor (List ℕ)) → List (List ℕ)
names_of left = map (λ name. name.now) left

-- a walk gave what is wanted: where it ends, or what is wanted from a symbolic link on, given the names that are left
abbrev pub Walks : (ℕ → PathWord → List (List ℕ) → Result Place Refusal) → List (List ℕ) → Result Walked Stop → Result Place Refusal → Type 0
Walks jump left (Ok (walked.Place place)) wanted = wanted ≡ Ok place
Walks jump left (Ok (walked.Link dir word)) wanted = wanted ≡ jump dir word.now left
Walks jump left (Err stop) wanted = IsPlaceFault stop wanted

-- the symbolic link is in a directory
abbrev pub EndsInDirectory : List Entry → Walked → Type 0
EndsInDirectory entries (walked.Link dir word) = IsTrue (is_directory_at entries dir)
EndsInDirectory entries other = ⊤

-- one step gave what is wanted, given the names that are left behind it
abbrev pub Meets : State → Bool → (ℕ → PathWord → List (List ℕ) → Result Place Refusal) → ℕ → List (List ℕ) → Result Met Stop → Result Place Refusal → Type 0
Meets s follow jump dir names (Ok (met.Directory number)) wanted = wanted ≡ steps s follow jump number names
Meets s follow jump dir names (Ok (met.Link word)) wanted = wanted ≡ jump dir word.now names
Meets s follow jump dir names (Ok (met.End place)) wanted = wanted ≡ Ok place
Meets s follow jump dir names (Err stop) wanted = IsPlaceFault stop wanted

-- what it led to is a directory
abbrev pub MeetsDirectory : List Entry → Met → Type 0
MeetsDirectory entries (met.Directory number) = IsTrue (is_directory_at entries number)
MeetsDirectory entries other = ⊤

-- a place was found as is wanted, or more symbolic links are on the way than may be followed
abbrev pub EndsAs : List (List ℕ) → Result (Option Place) Stop → Result Place Refusal → Type 0
EndsAs given (Ok (Some place)) wanted = wanted ≡ Ok place
EndsAs given (Ok None) wanted = wanted ≡ Err (refusal.Loop given)
EndsAs given (Err stop) wanted = IsPlaceFault stop wanted
