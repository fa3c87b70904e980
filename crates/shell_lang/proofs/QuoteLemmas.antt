-- A word in quotes, by its first byte.
use Rattle.std.proofs.Common.{◌≡◌, ℕ, ◌<◌, ◌≤◌, Bool, true, false, List, [], ◌∷◌, ◌++◌, length, drop, append-nil, refl, ap, ◌∙◌, arith}
use Rattle.std.specs.Prelude.{◌||◌, if◌then◌else◌, slice_index, Option, Some, None}
use Rattle.std.specs.Borrow.{Bor}
use Rattle.std.specs.Option.{option_map}
use Rattle.std.proofs.lemmas.List.{length-drop}
use Rattle.hac_model.specs.Bytes.{is_backslash, is_quote}
use Rattle.hac_model.specs.Script.LineWords.{in_front, quoted, quoted_escape}
use Rattle.shell_lang.specs.Quotes.{QuotesFirst}

pub quoted-none : (bytes : List ℕ) → length bytes < 1 → quoted bytes ≡ None
unfolding quoted
quoted-none [] h = refl
quoted-none (b ∷ bytes) h = absurd (omega arith)

-- a quote ends the word
pub quoted-closed : (bytes : List ℕ) → is_quote (slice_index bytes 0) ≡ true → quoted bytes ≡ Some ([], drop 1 bytes)
unfolding quoted
quoted-closed [] h = absurd cc
quoted-closed (b ∷ bytes) h = ap (λ (t : Bool). if t then Some ([], bytes) else (if is_backslash b then quoted_escape bytes else in_front b (quoted bytes))) h

-- any other byte goes on with it
pub quoted-step : (bytes : List ℕ) → 1 ≤ length bytes → is_quote (slice_index bytes 0) ≡ false →
    quoted bytes ≡ (if is_backslash (slice_index bytes 0) then quoted_escape (drop 1 bytes) else in_front (slice_index bytes 0) (quoted (drop 1 bytes)))
unfolding quoted
quoted-step [] some h = absurd (omega arith)
quoted-step (b ∷ bytes) some h = ap (λ (t : Bool). if t then Some ([], bytes) else (if is_backslash b then quoted_escape bytes else in_front b (quoted bytes))) h

pub escape-none : (bytes : List ℕ) → (1 ≤ length bytes → (is_quote (slice_index bytes 0) || is_backslash (slice_index bytes 0)) ≡ false) → quoted_escape bytes ≡ None
unfolding quoted
escape-none [] h = refl
escape-none (b ∷ bytes) h = ap (λ (t : Bool). if t then in_front b (quoted bytes) else None) (h (omega arith))

pub escape-step : (bytes : List ℕ) → 1 ≤ length bytes → (is_quote (slice_index bytes 0) || is_backslash (slice_index bytes 0)) ≡ true →
    quoted_escape bytes ≡ in_front (slice_index bytes 0) (quoted (drop 1 bytes))
unfolding quoted
escape-step [] some h = absurd (omega arith)
escape-step (b ∷ bytes) some h = ap (λ (t : Bool). if t then in_front b (quoted bytes) else None) h

-- what goes on behind a backslash goes on from it on
pub quotes-behind : (bytes : List ℕ) (first : Option (ℕ × Bor (List ℕ))) → 1 ≤ length bytes → quoted bytes ≡ quoted_escape (drop 1 bytes) →
    QuotesFirst quoted_escape (drop 1 bytes) first → QuotesFirst quoted bytes first
quotes-behind bytes None some same quotes = same ∙ quotes
quotes-behind bytes (Some first) some same quotes = (same ∙ quotes.0, omega (arith, length-drop 1 bytes, quotes.1))

-- a word so far, before the word that goes on
abbrev pub followed : List ℕ → Option (List ℕ × List ℕ) → Option (List ℕ × List ℕ)
followed word read = option_map (λ (more : List ℕ × List ℕ). (word ++ more.0, more.1)) read

pub followed-closed : (word rest : List ℕ) → is_quote (slice_index rest 0) ≡ true → followed word (quoted rest) ≡ Some (word, drop 1 rest)
followed-closed word rest closed =
    ap (λ (read : Option (List ℕ × List ℕ)). followed word read) (quoted-closed rest closed)
    ∙ ap (λ (whole : List ℕ). Some (whole, drop 1 rest)) (append-nil word)
