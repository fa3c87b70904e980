-- The words of a line, plain or in quotes.
use Rattle.std.specs.Prelude.{ℕ, Bool, ◌==◌, ◌||◌, if◌then◌else◌, List, [], ◌∷◌, ◌++◌, length, slice_index, drop, Option, Some, None, Result, Ok, Err}
use Rattle.std.specs.List.{flat_map, prefix_len, before_first}
use Rattle.std.specs.Option.{option_map, ok_or}
use Rattle.hac_model.specs.Run.Answers.{◌>>=◌}
use Rattle.hac_model.specs.Bytes.{is_backslash, is_quote, is_space}
use Rattle.hac_model.specs.declared.replies.Refusal.{Refusal}
use Rattle.hac_model.specs.declared.replies.Refusal.TheVariants.{BadLine}

-- the bytes from the first one on that is no space
abbrev pub skip_spaces : List ℕ → List ℕ
skip_spaces bytes = drop (prefix_len is_space bytes) bytes

-- the first run of bytes that are no spaces
abbrev pub first_run : List ℕ → List ℕ
first_run bytes = before_first is_space (skip_spaces bytes)

-- what follows the first run, from the space behind it on
abbrev pub after_first_run : List ℕ → List ℕ
after_first_run bytes = drop (length (first_run bytes)) (skip_spaces bytes)

-- a byte in front of a word that is read on, with what follows that word
abbrev pub in_front : ℕ → Option (List ℕ × List ℕ) → Option (List ℕ × List ℕ)
in_front b read = option_map (λ word. (b ∷ word.0, word.1)) read

unfoldable mutual
  -- the word behind an opening quote, up to the closing one, and what follows that: a backslash begins an escape
  pub quoted : List ℕ → Option (List ℕ × List ℕ)
  quoted [] = None
  quoted (b ∷ bytes) =
      if is_quote b then Some ([], bytes)
      else (if is_backslash b then quoted_escape bytes
      else in_front b (quoted bytes))

  -- the same from behind a backslash on: a quote or a backslash follows it, and nothing else may
  pub quoted_escape : List ℕ → Option (List ℕ × List ℕ)
  quoted_escape [] = None
  quoted_escape (b ∷ bytes) = if is_quote b || is_backslash b then in_front b (quoted bytes) else None

-- a word may end before these bytes: none, or a space
abbrev pub is_word_end : List ℕ → Bool
is_word_end bytes = length bytes == 0 || is_space (slice_index bytes 0)

-- the word behind an opening quote, and what follows its closing quote, where it may end there
abbrev pub quoted_word : List ℕ → Result (List ℕ × List ℕ) Refusal
quoted_word bytes = do
  word ← ok_or (quoted bytes) BadLine
  if is_word_end word.1 then Ok word else Err BadLine

-- the word at the front, and what follows it: one that begins with a quote runs to the closing quote, any other up to a
-- space
abbrev pub word_at : List ℕ → Result (List ℕ × List ℕ) Refusal
word_at bytes =
    if length bytes == 0 then Err BadLine
    else (if is_quote (slice_index bytes 0) then quoted_word (drop 1 bytes)
    else Ok (first_run bytes, after_first_run bytes))

-- the first word, before which spaces don't count, and what follows it. The line is bad where there is none, or its
-- quotes are.
abbrev pub first_word : List ℕ → Result (List ℕ × List ℕ) Refusal
first_word bytes = word_at (skip_spaces bytes)

-- what follows a word and one space: the text or the query of a command, in which quotes are bytes as any other
abbrev pub after_space : List ℕ → List ℕ
after_space bytes = drop 1 bytes

-- a byte of a word in quotes
abbrev pub quoted_byte : ℕ → List ℕ
quoted_byte b = if is_quote b || is_backslash b then 92 ∷ b ∷ [] else b ∷ []

-- a word in quotes
abbrev pub in_quotes : List ℕ → List ℕ
in_quotes word = 34 ∷ (flat_map quoted_byte word ++ 34 ∷ [])
