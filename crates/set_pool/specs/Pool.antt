-- What is behind the spare of a pool.
use Rattle.std.specs.Prelude.{ℕ, ◌+◌, ◌^◌, ◌≤◌, length}
use Rattle.set_pool.specs.Lists.{Names, members_at}

-- there are names and blocks for what is spare, and no set has more numbers than calls were granted
pub record IsBacked (names : Names) (blocks spare granted : ℕ) : Type 0 where
  pub enough_names : spare ≤ names.free
  pub enough_blocks : spare ≤ blocks
  pub given : spare ≤ granted
  pub few : (set : ℕ) → length (members_at names.lists set) + spare ≤ granted
  pub small : granted ≤ 2 ^ 62
