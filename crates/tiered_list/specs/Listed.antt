-- What callers see of a list.
use Rattle.std.specs.Prelude.{ℕ, List}

-- the numbers, and how many places there are for more
pub record Listed : Type 0 where
  pub items : List ℕ
  pub spare : ℕ
