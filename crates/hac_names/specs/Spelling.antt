-- How a text is read from its spelling, byte by byte.
use Rattle.std.specs.Prelude.{◌≡◌, ◌<◌, ℕ, List, length, Option, Some, None}
use Rattle.std.specs.Borrow.{Bor}
use Rattle.hac_model.specs.Script.Texts.{text_of, with_byte}

-- the bytes are read as this byte in front of the text that those behind it spell, fewer than they are; or they are no
-- text
abbrev pub SpellsFirst : (List ℕ → Option (List ℕ)) → List ℕ → Option (ℕ × Bor (List ℕ)) → Type 0
SpellsFirst read bytes None = read bytes ≡ None
SpellsFirst read bytes (Some first) = (read bytes ≡ with_byte first.0 (text_of first.1.now)) × (length first.1.now < length bytes)
