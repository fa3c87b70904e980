-- What is looked for over edges, given where each number leads.
use Rattle.std.specs.Prelude.{◌≡◌, ◌≢◌, ◌⊎◌, ℕ, List, [], ◌∷◌, Option, Some, None}
use Rattle.hac_model.specs.Tree.Depends.{Among, Reaches}

-- the first of the numbers that reaches the other, none where none does
abbrev pub IsFirstToReach : (ℕ → List ℕ) → ℕ → List ℕ → Option ℕ → Type 0
IsFirstToReach edges to [] found = found ≡ None
IsFirstToReach edges to (first ∷ numbers) found = ((found ≡ Some first) × Reaches edges first to) ⊎ (¬ Reaches edges first to × IsFirstToReach edges to numbers found)

-- some of the numbers reaches the other
abbrev pub AnyReaches : (ℕ → List ℕ) → List ℕ → ℕ → Type 0
AnyReaches edges numbers to = (from : ℕ) × (Among numbers from) × (Reaches edges from to)

-- the number reaches some of the others
abbrev pub ReachesAny : (ℕ → List ℕ) → ℕ → List ℕ → Type 0
ReachesAny edges from numbers = (to : ℕ) × (Among numbers to) × (Reaches edges from to)

-- no number comes twice
abbrev pub EachOnce : List ℕ → Type 0
EachOnce [] = Unit {0}
EachOnce (first ∷ numbers) = ¬ Among numbers first × EachOnce numbers

-- each number comes once, and behind those of them to which its edges lead
abbrev pub IsOrdered : (ℕ → List ℕ) → List ℕ → Type 0
IsOrdered edges [] = Unit {0}
IsOrdered edges (first ∷ numbers) = ¬ Among numbers first × ((next : ℕ) → Among (edges first) next → ¬ Among (first ∷ numbers) next) × IsOrdered edges numbers

-- the numbers are those with edges that some of the directories reaches, in order
pub record AreSources (edges : ℕ → List ℕ) (dirs numbers : List ℕ) : Type 0 where
  pub reached : (number : ℕ) → Among numbers number → (edges number ≢ []) × AnyReaches edges dirs number
  pub all : (number : ℕ) → edges number ≢ [] → AnyReaches edges dirs number → Among numbers number
  pub ordered : IsOrdered edges numbers

-- the numbers are those with edges that reach some of the directories, in order; so one of these that has no edges, as a plain directory, isn't among them
pub record IsCone (edges : ℕ → List ℕ) (dirs numbers : List ℕ) : Type 0 where
  pub reached : (number : ℕ) → Among numbers number → (edges number ≢ []) × ReachesAny edges number dirs
  pub all : (number : ℕ) → edges number ≢ [] → ReachesAny edges number dirs → Among numbers number
  pub ordered : IsOrdered edges numbers
