-- How a run asks its spaces, and how they fail as they are asked.
use Rattle.std.specs.Prelude.{◌≡◌, ◌≤◌, ℕ, false, List, [], ◌∷◌, Option, None, Some, is_some}
use Rattle.std.specs.List.{list_any}
use Rattle.std.specs.Option.{IfSome}
use Rattle.hac_model.specs.Run.Given.{Given}
use Rattle.hac_model.specs.Run.Play.{AreAskable, Setting}
use Rattle.hac_model.specs.Script.{script}
use Rattle.hac_outside.specs.Calls.{next_number}
use Rattle.hac_outside.specs.Causes.{Rose}
use Rattle.sem_mounts.specs.Seen.{Contents, SpacesSeen}

-- what is given to a run: spaces with these contents, how they fail, and how many steps follow each command
abbrev pub given_by : Contents → List (Option (List ℕ)) → ℕ → Given
given_by contents faults tick = record { spaces = contents.spaces; faults = faults; steps = tick }

-- the count of faults once commands have asked, where some of them met one
abbrev pub faults_after : ℕ → List (Option (List ℕ)) → ℕ
faults_after count [] = count
faults_after count (None ∷ faults) = faults_after count faults
faults_after count (Some space ∷ faults) = faults_after (next_number count) faults

-- all is as before but the count of faults, which hasn't fallen
pub record StayAttached (old new : SpacesSeen) : Type 0 where
  pub attached : new.attached ≡ old.attached
  pub contents : new.contents ≡ old.contents
  pub later : old.faults ≤ new.faults

-- Commands asked spaces, and met these faults, one for each command or none. They are all that was counted.
pub record HaveAsked (old new : SpacesSeen) (met : List (Option (List ℕ))) : Type 0 where
  pub stay : StayAttached old new
  pub count : new.faults ≡ faults_after old.faults met

-- These are the faults that the commands of a script met, each at a space that its command asked. The count of faults
-- has risen by no less, and where it hasn't risen there was none.
pub record AreMet (old new : SpacesSeen) (given : Given) (setting : Setting) (bytes : List ℕ) : Type 0 where
  pub askable : AreAskable given setting (script bytes)
  pub counted : faults_after old.faults given.faults ≤ new.faults
  pub none : (Rose old.faults new.faults → ⊥) → list_any is_some given.faults ≡ false

-- what is said of a run by the contents of its spaces, if these are told, and by the faults that it met
abbrev pub IfTold : SpacesSeen → SpacesSeen → ℕ → Setting → List ℕ → (Given → Type 0) → Type 0
IfTold old new tick setting bytes P =
    IfSome new.contents (λ contents. (faults : List (Option (List ℕ))) × AreMet old new (given_by contents faults tick) setting bytes
    × P (given_by contents faults tick))
