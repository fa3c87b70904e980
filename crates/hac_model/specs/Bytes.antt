-- The bytes that the language of scripts tells apart.
use Rattle.std.specs.Prelude.{ℕ, Bool, ◌==◌}

abbrev pub is_line_end : ℕ → Bool
is_line_end b = b == 10

abbrev pub is_space : ℕ → Bool
is_space b = b == 32

abbrev pub is_slash : ℕ → Bool
is_slash b = b == 47

abbrev pub is_backslash : ℕ → Bool
is_backslash b = b == 92

abbrev pub is_quote : ℕ → Bool
is_quote b = b == 34
