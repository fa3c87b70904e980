-- Whether numbers come in an order in which each leads back.
use Rattle.std.specs.Prelude.{ℕ, Bool, true, ◌==◌, ◌&&◌, ◌||◌, cond, nat_eq, List, [], ◌∷◌, length}
use Rattle.std.specs.List.{list_all}

-- the number was placed, or leads nowhere
abbrev pub is_settled : (ℕ → List ℕ) → (ℕ → Bool) → ℕ → Bool
is_settled edges placed number = placed number || length (edges number) == 0

-- one number more is placed
abbrev pub with_placed : (ℕ → Bool) → ℕ → ℕ → Bool
with_placed placed number other = cond (nat_eq number other) true (placed other)

-- all these numbers are placed too
abbrev pub all_placed : (ℕ → Bool) → List ℕ → ℕ → Bool
all_placed placed [] = placed
all_placed placed (number ∷ numbers) = all_placed (with_placed placed number) numbers

-- each number leads only to what was placed before it, or leads nowhere
abbrev pub lead_back : (ℕ → List ℕ) → (ℕ → Bool) → List ℕ → Bool
lead_back edges placed [] = true
lead_back edges placed (number ∷ numbers) =
    list_all (is_settled edges placed) (edges number) && lead_back edges (with_placed placed number) numbers
