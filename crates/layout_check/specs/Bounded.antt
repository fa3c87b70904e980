-- Sums that are kept in a word of 64 bits.
use Rattle.std.specs.Prelude.{ℕ, ◌-◌, ◌^◌, min}

-- the number, or the greatest that fits where it doesn't
abbrev pub bounded : ℕ → ℕ
bounded n = min n (2 ^ 64 - 1)
