-- Theorems over the words of a text, each proved as the contract of a function of the module `laws`.
use Rattle.std.specs.Prelude.{◌≡◌, ◌↔◌, ℕ, List, All, Contains, IsTrue}
use Rattle.std.specs.Cmp.Lexicographic.{slice_cmp}
use Rattle.std.specs.List.{list_any}
use Rattle.std.specs.List.Sorted.{IsStrictlySortedBy}
use Rattle.std.specs.Ordering.{nat_cmp}
use Rattle.hac_model.specs.Query.Terms.{letters_in}
use Rattle.hac_model.specs.Query.Words.{has_term, is_asked, is_word, rising_words, words}
use Rattle.hac_model.specs.declared.terms.Term.{Term}
use Rattle.hac_words.specs.Standing.{stands_at}

-- each word of a text is a word by itself
abbrev pub WordsAreWords : Type 0
WordsAreWords = (text : List ℕ) → All (λ word. IsTrue (is_word word)) (words text)

-- the words rise
abbrev pub WordsRise : Type 0
WordsRise = (text : List ℕ) → IsStrictlySortedBy (slice_cmp nat_cmp) (rising_words text)

-- the words that rise are the words of the text
abbrev pub WordsStay : Type 0
WordsStay = (text word : List ℕ) → Contains (rising_words text) word ↔ Contains (words text) word

-- what rises and has the words of the text is the list of its words
abbrev pub WordsAreDetermined : Type 0
WordsAreDetermined =
    (text : List ℕ) (list : List (List ℕ)) →
    IsStrictlySortedBy (slice_cmp nat_cmp) list →
    ((word : List ℕ) → Contains list word ↔ Contains (words text) word) →
    list ≡ rising_words text

-- the text has a term exactly where its rising words have it
abbrev pub TermsAreFound : Type 0
TermsAreFound = (text : List ℕ) (term : Term) → has_term text term ≡ list_any (is_asked term) (rising_words text)

-- a text has a term whose letters are a word exactly where there is a place at which it stands
abbrev pub TermsStand : Type 0
TermsStand =
    (text : List ℕ) (term : Term) →
    IsTrue (is_word (letters_in term)) →
    IsTrue (has_term text term) ↔ ((at : ℕ) × IsTrue (stands_at text at term))
