-- What a row holds, and where a number lies beside it.
use Rattle.std.specs.Prelude.{◌≡◌, ℕ, ◌<◌, true, List, ◌∷◌, nat_le}
use Rattle.std.specs.List.{list_any}
use Rattle.arrayvec.specs.ArrayVec.{array_vec_len}
use Rattle.set_pool.specs.Rising.{AllAbove, AllBelow}
use Rattle.set_pool.specs.declared.rows.Row.{Row}
use Rattle.set_pool.specs.declared.rows.Side.{Side}
use Rattle.set_pool.specs.declared.rows.Side.TheVariants.{Before, Within, After}

-- the numbers of a row, in order
abbrev pub members : Row → List ℕ
members row = row.first ∷ row.rest.items

-- a row holds seven numbers
abbrev pub IsFull : Row → Type 0
IsFull row = array_vec_len row.rest ≡ 6

-- a row holds fewer than seven
abbrev pub HasRoom : Row → Type 0
HasRoom row = array_vec_len row.rest < 6

-- the value is below all members, above all, or neither
abbrev pub LiesAt : Side → ℕ → List ℕ → Type 0
LiesAt Before value members = AllAbove value members
LiesAt Within value members = (list_any (λ member. nat_le member value) members ≡ true) × (list_any (λ member. nat_le value member) members ≡ true)
LiesAt After value members = AllBelow value members
