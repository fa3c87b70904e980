-- Where in a text a term stands, by places.
use Rattle.std.specs.Prelude.{ℕ, ◌+◌, ◌-◌, ◌<◌, ◌≤◌, Bool, IsTrue, MatchBool, ◌&&◌, ◌||◌, ◌==◌, not, nat_eq, List, drop, length, slice_index, take}
use Rattle.std.specs.List.{starts_with}
use Rattle.hac_model.specs.Query.Terms.{letters_in}
use Rattle.hac_model.specs.Query.Words.{has_term, is_word_byte, lower_case}
use Rattle.hac_model.specs.declared.terms.Term.{Term}
use Rattle.hac_model.specs.declared.terms.Term.TheVariants.{Word, Prefix}

-- a word may begin at the place: it is the text's first, or no word byte is before it
unfoldable pub may_begin : List ℕ → ℕ → Bool
may_begin text at = at == 0 || not (is_word_byte (slice_index text (at - 1)))

-- a word may end at the place: no word byte is there, and past the end there is 0, which is none
unfoldable pub may_end : List ℕ → ℕ → Bool
may_end text at = not (is_word_byte (slice_index text at))

-- the text, in lower case, begins with the term's letters, and behind those of a whole word no word goes on
unfoldable pub begins_with : List ℕ → Term → Bool
begins_with text (Word letters) = starts_with nat_eq (lower_case text) letters && may_end text (length letters)
begins_with text (Prefix letters) = starts_with nat_eq (lower_case text) letters

-- at the place a word begins, and it is what the term asks for
unfoldable pub stands_at : List ℕ → ℕ → Term → Bool
stands_at text at term = may_begin text at && begins_with (drop at text) term

-- the term stands nowhere from the one place up to the other
abbrev pub StandsNowhere : List ℕ → Term → ℕ → ℕ → Type 0
StandsNowhere text term from to = (at : ℕ) → from ≤ at → at < to → ¬ IsTrue (stands_at text at term)

-- the window of a size at a place: that many bytes from there on, in lower case
unfoldable pub window_at : ℕ → List ℕ → ℕ → List ℕ
window_at size text from = lower_case (take size (drop from text))

-- what is found in a window, the text has. Where nothing is found, the term stands at no place from which on its letters
-- would fit into the window
abbrev pub WindowTells : ℕ → List ℕ → ℕ → Term → Bool → Type 0
WindowTells size text from term found =
    MatchBool found (IsTrue (has_term text term)) (StandsNowhere text term from (from + (size + 1 - length (letters_in term))))
