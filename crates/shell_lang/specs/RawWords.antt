-- The words of a line as they are written in it.
use Rattle.std.specs.Prelude.{◌≡◌, ◌⊎◌, ℕ, List, Option, Some, None, Result, Ok, Err}
use Rattle.std.specs.Borrow.{Bor}
use Rattle.std.specs.List.{flat_map}
use Rattle.hac_model.specs.Script.LineWords.{quoted_byte}
use Rattle.hac_model.specs.declared.replies.Refusal.{Refusal}
use Rattle.hac_model.specs.declared.replies.Refusal.TheVariants.{BadLine}

-- the bytes mean the word: they are the word, or what is written between quotes for it, with its escapes
abbrev pub IsRaw : List ℕ → List ℕ → Type 0
IsRaw bytes word = (bytes ≡ word) ⊎ (bytes ≡ flat_map quoted_byte word)

-- the bytes that mean a word, and what follows it, where a word is wanted; none if the line is bad
abbrev pub GivesRaw : Option (Bor (List ℕ) × Bor (List ℕ)) → Result (List ℕ × List ℕ) Refusal → Type 0
GivesRaw None wanted = wanted ≡ Err BadLine
GivesRaw (Some raw) wanted = (word : List ℕ) × (IsRaw raw.0.now word × (wanted ≡ Ok (word, raw.1.now)))
