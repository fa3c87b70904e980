-- A text's spelling, by its first bytes.
use Rattle.std.proofs.Common.{◌≡◌, ℕ, ◌<◌, ◌≤◌, List, [], ◌∷◌, ◌++◌, length, drop, append-nil, refl, ap, ◌∙◌, arith}
use Rattle.std.proofs.lemmas.List.{length-drop}
use Rattle.std.specs.Borrow.{Bor}
use Rattle.std.specs.Option.{option_map}
use Rattle.std.specs.Prelude.{◌==◌, if◌then◌else◌, slice_index, Option, Some, None}
use Rattle.hac_model.specs.Bytes.{is_backslash}
use Rattle.hac_model.specs.Script.Texts.{escape_meaning, escape_of, hex_of, hex_byte, text_of, then_text, with_byte}
use Rattle.hac_names.specs.Spelling.{SpellsFirst}

-- what is spelled behind the first byte is spelled from it on, where that is how they are read
pub spells-behind : (read inner : List ℕ → Option (List ℕ)) (bytes : List ℕ) (first : Option (ℕ × Bor (List ℕ))) →
    1 ≤ length bytes → read bytes ≡ inner (drop 1 bytes) → SpellsFirst inner (drop 1 bytes) first → SpellsFirst read bytes first
spells-behind read inner bytes None some same spells = same ∙ spells
spells-behind read inner bytes (Some first) some same spells = (same ∙ spells.0, omega (arith, length-drop 1 bytes, spells.1))

pub text_of-step : (bytes : List ℕ) → 0 < length bytes →
    text_of bytes ≡ (if is_backslash (slice_index bytes 0) then escape_of (drop 1 bytes) else with_byte (slice_index bytes 0) (text_of (drop 1 bytes)))
unfolding text_of
text_of-step [] h = absurd (omega arith)
text_of-step (b ∷ bytes) h = refl

pub escape_of-none : (bytes : List ℕ) → length bytes < 1 → escape_of bytes ≡ None
unfolding text_of
escape_of-none [] h = refl
escape_of-none (b ∷ bytes) h = absurd (omega arith)

pub escape_of-step : (bytes : List ℕ) → 0 < length bytes →
    escape_of bytes ≡ (if slice_index bytes 0 == 120 then hex_of (drop 1 bytes) else then_text (escape_meaning (slice_index bytes 0)) (text_of (drop 1 bytes)))
unfolding text_of
escape_of-step [] h = absurd (omega arith)
escape_of-step (b ∷ bytes) h = refl

pub hex_of-none : (bytes : List ℕ) → length bytes < 2 → hex_of bytes ≡ None
unfolding text_of
hex_of-none [] h = refl
hex_of-none (high ∷ []) h = refl
hex_of-none (high ∷ low ∷ bytes) h = absurd (omega arith)

pub hex_of-step : (bytes : List ℕ) → 2 ≤ length bytes →
    hex_of bytes ≡ then_text (hex_byte (slice_index bytes 0) (slice_index bytes 1)) (text_of (drop 2 bytes))
unfolding text_of
hex_of-step [] h = absurd (omega arith)
hex_of-step (high ∷ []) h = absurd (omega arith)
hex_of-step (high ∷ low ∷ bytes) h = refl

-- nothing more is spelled where nothing is left
pub text_of-end : (text rest : List ℕ) → length rest ≡ 0 → option_map (λ (more : List ℕ). text ++ more) (text_of rest) ≡ Some text
unfolding text_of
text_of-end text [] h = ap Some (append-nil text)
text_of-end text (b ∷ rest) h = absurd (omega arith)
