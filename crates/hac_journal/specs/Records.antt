-- Records, as a file has them, one behind the other.
use Rattle.std.specs.Prelude.{ℕ, ◌<◌, ◌^◌, List, [], ◌∷◌, ◌++◌, length, map, Vec}
use Rattle.std.specs.List.{AllByRecursion}
use Rattle.std.specs.declared.alloc.Global.{Global}
use Rattle.byteorder.specs.Endian.{little_bytes}

-- a record: an open gate, the payload's length in four bytes, the payload
unfoldable pub record_of : List ℕ → List ℕ
record_of payload = 1 ∷ little_bytes 4 (length payload) ++ payload

-- records, one behind the other
abbrev pub records_of : List (List ℕ) → List ℕ
records_of [] = []
records_of (payload ∷ payloads) = record_of payload ++ records_of payloads

-- records, and the closed gate behind them
abbrev pub log_of : List (List ℕ) → List ℕ
log_of payloads = records_of payloads ++ 0 ∷ []

-- the bytes of each
abbrev pub contents_of : List (Vec ℕ Global) → List (List ℕ)
contents_of payloads = map (λ payload. payload.items) payloads

-- a payload's length has four bytes, and so each payload is this short
abbrev pub AreShort : List (List ℕ) → Type 0
AreShort payloads = AllByRecursion (λ payload. length payload < 2 ^ 32) payloads
