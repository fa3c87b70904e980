-- What is linked in a directory, one number after the other.
use Rattle.std.specs.Prelude.{ℕ, Option, None, Some, nat_le, if◌then◌else◌}
use Rattle.hac_model.specs.Tree.Links.{permanent_at, prohibited_at, transient_at}
use Rattle.hac_model.specs.declared.states.State.{State}
use Rattle.set_pool.specs.Rising.{first_from}

-- the lesser of two numbers, or the one that there is
abbrev pub lesser : Option ℕ → Option ℕ → Option ℕ
lesser None other = other
lesser (Some one) None = Some one
lesser (Some one) (Some other) = if nat_le one other then Some one else Some other

-- the first number from this one on that is linked in the directory: found, added or removed by the user
abbrev pub next_linked : State → ℕ → ℕ → Option ℕ
next_linked s dir from =
    lesser (first_from from (transient_at s dir)) (lesser (first_from from (permanent_at s dir)) (first_from from (prohibited_at s dir)))
