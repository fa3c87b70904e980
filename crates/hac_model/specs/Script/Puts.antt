-- What comes of the bytes that a `put` asks for.
use Rattle.std.specs.Prelude.{ℕ, if◌then◌else◌, nat_le, nat_lt, List, length, take}
use Rattle.hac_model.specs.declared.limits.TheConstants.{TEXT_LIMIT}
use Rattle.hac_model.specs.declared.taken.Taken.{Taken}
use Rattle.hac_model.specs.declared.taken.Taken.TheVariants.{Whole, Dropped, Short}

-- what comes of so many bytes, given all that follow the line. No more are kept than a text may have.
abbrev pub came : ℕ → List ℕ → Taken
came count behind =
    if nat_lt (length behind) count then Short
    else (if nat_le count TEXT_LIMIT then Whole (take count behind) else Dropped)
