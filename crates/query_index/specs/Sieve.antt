-- Numbers of letters. Letters whose number isn't marked aren't in an index.
use Rattle.std.specs.Prelude.{ℕ, ◌+◌, ◌*◌, ◌%◌, Bool, false, List, fold, get_or}

-- the number of letters and a byte behind them
unfoldable pub next : ℕ → ℕ → ℕ
next number byte = (number * 251 + byte) % 32768

-- the number of letters
abbrev pub number_of : List ℕ → ℕ
number_of letters = fold next 0 letters

-- the number is marked
abbrev pub has_number : List Bool → ℕ → Bool
has_number marks number = get_or marks number false

-- the number of the letters is
abbrev pub passes : List Bool → List ℕ → Bool
passes marks letters = has_number marks (number_of letters)
