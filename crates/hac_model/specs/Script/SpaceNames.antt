-- Which bytes are the name of a space.
use Rattle.std.specs.Prelude.{ℕ, Bool, ◌==◌, ◌&&◌, ◌||◌, nat_le, List, length}
use Rattle.std.specs.Char.{is_ascii_alphanumeric}
use Rattle.std.specs.List.{list_all}

-- a space's name may hold this byte: an ASCII letter, an ASCII digit, `_` or `-`
unfoldable pub is_space_byte : ℕ → Bool
is_space_byte b = is_ascii_alphanumeric b || b == 95 || b == 45

-- the bytes are the name of a space: 1 to 32 of those bytes
unfoldable pub is_space_name : List ℕ → Bool
is_space_name bytes = nat_le 1 (length bytes) && nat_le (length bytes) 32 && list_all is_space_byte bytes
