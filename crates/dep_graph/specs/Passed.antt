-- What a search has passed.
use Rattle.std.specs.Prelude.{◌≡◌, ℕ, Bool, true, List}
use Rattle.hac_model.specs.Tree.Depends.{Among}

-- what was passed isn't the one looked for, and leads nowhere but to what was passed
abbrev pub KeepsAway : (ℕ → List ℕ) → ℕ → (ℕ → Bool) → Type 0
KeepsAway edges to seen = (number : ℕ) → seen number ≡ true → (number ≡ to → ⊥) × ((next : ℕ) → Among (edges number) next → seen next ≡ true)
