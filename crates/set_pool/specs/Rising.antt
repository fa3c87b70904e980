-- Lists of numbers that rise: who is in them, and what they are with a number more or less.
use Rattle.std.specs.Prelude.{ℕ, ◌<◌, Bool, not, List, [], ◌∷◌, ◌++◌, Option, ◌==◌, nat_lt, nat_le, filter, find}
use Rattle.std.specs.List.{AllByRecursion, list_any}

-- each member is above the value
abbrev pub AllAbove : ℕ → List ℕ → Type 0
AllAbove value members = AllByRecursion (λ member. value < member) members

-- each member is below the value
abbrev pub AllBelow : ℕ → List ℕ → Type 0
AllBelow value members = AllByRecursion (λ member. member < value) members

-- all later numbers are above each number
abbrev pub Rises : List ℕ → Type 0
Rises [] = Unit {0}
Rises (x ∷ xs) = AllAbove x xs × Rises xs

-- whether the value is one of the members
abbrev pub is_among : ℕ → List ℕ → Bool
is_among value members = list_any (λ member. value == member) members

-- the first member that is not below the value
abbrev pub first_from : ℕ → List ℕ → Option ℕ
first_from value members = find (λ member. nat_le value member) members

-- the members below the value, the value, and the members above it
abbrev pub inserted : ℕ → List ℕ → List ℕ
inserted value members = filter (λ member. nat_lt member value) members ++ value ∷ filter (λ member. nat_lt value member) members

-- the members other than the value
abbrev pub removed : ℕ → List ℕ → List ℕ
removed value members = filter (λ member. not (value == member)) members
