-- Which bytes are a name.
use Rattle.std.specs.Prelude.{ℕ, Bool, ◌==◌, ◌&&◌, not, nat_le, List, length, codes}
use Rattle.std.specs.List.{list_all}
use Rattle.std.specs.Str.{bytes_eq}
use Rattle.hac_model.specs.Bytes.{is_slash}
use Rattle.hac_model.specs.declared.limits.TheConstants.{NAME_LIMIT}

-- a name may hold this byte: it is no slash and no control byte
abbrev pub is_name_byte : ℕ → Bool
is_name_byte b = nat_le 32 b && not (b == 127) && not (is_slash b)

-- the bytes are a name: 1 to 255 bytes that names may hold, and neither `.` nor `..`
abbrev pub is_name : List ℕ → Bool
is_name bytes =
    nat_le 1 (length bytes) && nat_le (length bytes) NAME_LIMIT && list_all is_name_byte bytes
    && not (bytes_eq bytes (codes ".")) && not (bytes_eq bytes (codes ".."))
