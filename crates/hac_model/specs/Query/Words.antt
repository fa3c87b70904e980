-- The words of a text, and the terms that a text has.
use Rattle.std.specs.Prelude.{ℕ, Bool, ◌&&◌, ◌||◌, not, nat_eq, nat_le, List, [], map, filter, fold, length}
use Rattle.std.specs.BTreeSet.{insert_key}
use Rattle.std.specs.Char.{is_ascii_alphanumeric, is_ascii_uppercase, to_ascii_lowercase}
use Rattle.std.specs.Cmp.Lexicographic.{slice_cmp}
use Rattle.std.specs.List.{list_any, list_all, slice_split, starts_with}
use Rattle.std.specs.Ordering.{nat_cmp}
use Rattle.std.specs.Str.{bytes_eq}
use Rattle.hac_model.specs.declared.terms.Term.{Term}
use Rattle.hac_model.specs.declared.terms.Term.TheVariants.{Word, Prefix}

-- a word may hold this byte: it is an ASCII letter, an ASCII digit or a byte from 128 on
unfoldable pub is_word_byte : ℕ → Bool
is_word_byte b = is_ascii_alphanumeric b || nat_le 128 b

-- there is a byte at least
abbrev pub has_bytes : List ℕ → Bool
has_bytes bytes = nat_le 1 (length bytes)

-- the longest runs of word bytes, in the order of the text
abbrev pub runs : List ℕ → List (List ℕ)
runs text = filter has_bytes (slice_split (λ b. not (is_word_byte b)) text)

-- `A` to `Z` as `a` to `z`, and each other byte as it is
abbrev pub lower_case : List ℕ → List ℕ
lower_case bytes = map to_ascii_lowercase bytes

-- the words of a text, in its order and as often as it has them
unfoldable pub words : List ℕ → List (List ℕ)
words text = map lower_case (runs text)

-- the words of a text, each once and in the order of their bytes: one after the other goes to its place among those
-- that came before it, unless it is there
unfoldable pub rising_words : List ℕ → List (List ℕ)
rising_words text = fold (insert_key (slice_cmp nat_cmp)) [] (words text)

-- a word in lower case may hold this byte: it is a word byte and none of `A` to `Z`
unfoldable pub is_lower_word_byte : ℕ → Bool
is_lower_word_byte b = is_word_byte b && not (is_ascii_uppercase b)

-- the bytes are a word as `words` gives it
unfoldable pub is_word : List ℕ → Bool
is_word bytes = has_bytes bytes && list_all is_lower_word_byte bytes

-- the word is what the term asks for
abbrev pub is_asked : Term → List ℕ → Bool
is_asked (Word letters) word = bytes_eq letters word
is_asked (Prefix letters) word = starts_with nat_eq word letters

-- one of the text's words is what the term asks for
unfoldable pub has_term : List ℕ → Term → Bool
has_term text term = list_any (is_asked term) (words text)
