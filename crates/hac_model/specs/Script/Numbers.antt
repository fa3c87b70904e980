-- Numbers, as lines spell them.
use Rattle.std.specs.Prelude.{ℕ, Bool, ◌==◌, ◌&&◌, ◌||◌, ◌^◌, not, nat_le, nat_lt, List, length, slice_index, codes}
use Rattle.std.specs.Char.{is_ascii_digit}
use Rattle.std.specs.List.{list_all}
use Rattle.std.specs.Str.{bytes_eq}
use Rattle.std.specs.Str.Parse.{digits_value}
use Rattle.hac_model.specs.declared.limits.TheConstants.{TICK_LIMIT}

-- the word is `0`, or so many digits at most, of which the first is no zero
abbrev pub is_number_within : ℕ → List ℕ → Bool
is_number_within most word =
    bytes_eq word (codes "0")
    || (nat_le 1 (length word) && nat_le (length word) most && list_all is_ascii_digit word
    && not (slice_index word 0 == 48))

-- the word is a number of at most 10 digits
abbrev pub is_number : List ℕ → Bool
is_number word = is_number_within 10 word

-- so many files may one `tick` index
abbrev pub are_steps : ℕ → Bool
are_steps count = nat_le count TICK_LIMIT

-- the word is such a number
abbrev pub is_tick : List ℕ → Bool
is_tick word = is_number word && are_steps (digits_value 10 word)

-- the word is a number from which a script can be drawn: one that eight bytes hold
abbrev pub is_seed : List ℕ → Bool
is_seed word = is_number_within 20 word && nat_lt (digits_value 10 word) (2 ^ 64)
