-- Numbers that pass a test.
use Rattle.std.specs.Prelude.{◌≡◌, ℕ, zero, suc, Bool, false, ◌||◌, List}
use Rattle.hac_model.specs.Tree.Links.{has}
use Rattle.hac_model.specs.Tree.Valid.{RiseFrom}

-- some number below this one passes the test
abbrev pub any_below : ℕ → (ℕ → Bool) → Bool
any_below zero test = false
any_below (suc n) test = any_below n test || test n

-- the numbers that pass the test are added
abbrev pub AddsAll : List ℕ → List ℕ → (ℕ → Bool) → Type 0
AddsAll old new test = (n : ℕ) → has new n ≡ (has old n || test n)

-- the numbers are all that pass the test, in order
pub record AreThose (test : ℕ → Bool) (numbers : List ℕ) : Type 0 where
  pub rise : RiseFrom 0 numbers
  pub all : (n : ℕ) → has numbers n ≡ test n
