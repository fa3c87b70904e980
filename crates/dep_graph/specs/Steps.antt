-- A search by steps, those to be done first in front.
use Rattle.std.specs.Prelude.{◌≡◌, ◌≢◌, ◌⊎◌, ℕ, Bool, true, false, cond, nat_eq, List, [], ◌∷◌}
use Rattle.dep_graph.specs.declared.sources.Step.{Step}
use Rattle.dep_graph.specs.declared.sources.Step.TheVariants.{Enter, Leave}

-- each of the numbers is put in front, to be entered
abbrev pub entering : List ℕ → List Step → List Step
entering [] steps = steps
entering (number ∷ numbers) steps = entering numbers (Enter number ∷ steps)

-- one number more is seen
abbrev pub Marks : ℕ → (ℕ → Bool) → (ℕ → Bool) → Type 0
Marks number old new = (other : ℕ) → new other ≡ cond (nat_eq number other) true (old other)

-- nothing is done for a number that has no edges or was seen
abbrev pub PassesBy : List ℕ → ℕ → (ℕ → Bool) → (ℕ → Bool) → List Step → List Step → Type 0
PassesBy edges number old new before after = ((edges ≡ []) ⊎ (old number ≡ true)) × ((other : ℕ) → new other ≡ old other) × (after ≡ before)

-- a number is to be left behind all to which its edges lead
abbrev pub Descends : List ℕ → ℕ → (ℕ → Bool) → (ℕ → Bool) → List Step → List Step → Type 0
Descends edges number old new before after = (edges ≢ []) × (old number ≡ false) × Marks number old new × (after ≡ entering edges (Leave number ∷ before))

-- one of the two
abbrev pub Visits : List ℕ → ℕ → (ℕ → Bool) → (ℕ → Bool) → List Step → List Step → Type 0
Visits edges number old new before after = PassesBy edges number old new before after ⊎ Descends edges number old new before after
