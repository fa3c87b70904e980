-- How a word in quotes is read, byte by byte.
use Rattle.std.specs.Prelude.{◌≡◌, ◌<◌, ℕ, List, length, Option, Some, None}
use Rattle.std.specs.Borrow.{Bor}
use Rattle.hac_model.specs.Script.LineWords.{in_front, quoted}

-- the bytes are read as this byte in front of the word that goes on behind it, in fewer bytes; or they are no word
abbrev pub QuotesFirst : (List ℕ → Option (List ℕ × List ℕ)) → List ℕ → Option (ℕ × Bor (List ℕ)) → Type 0
QuotesFirst read bytes None = read bytes ≡ None
QuotesFirst read bytes (Some first) = (read bytes ≡ in_front first.0 (quoted first.1.now)) × (length first.1.now < length bytes)
