-- What is known of the rising words of a text.
use Rattle.std.proofs.Common.{◌≡◌, ◌↔◌, ◌∙◌, ℕ, Bool, List, sym}
use Rattle.std.specs.Cmp.{both_ways, eq_by_cmp_equiv}
use Rattle.std.specs.Cmp.Lexicographic.{nat_list_cmp_total, slice_cmp}
use Rattle.std.specs.List.{Contains, list_any}
use Rattle.std.specs.List.Sorted.{IsStrictlySortedBy}
use Rattle.std.specs.Ordering.{eq_by_cmp, nat_cmp}
use Rattle.std.proofs.lemmas.Map.Views.{Contains-from_any, list_any-from_Contains}
use Rattle.hac_model.specs.Query.Words.{has_term, is_asked, rising_words, words}
use Rattle.hac_model.specs.declared.terms.Term.{Term}
use Rattle.hac_words.proofs.RisingLemmas.{IsStrictlySortedBy-fold, list_any-fold, same_rising, word_tie, words_apart}

pub rising_words-rise : (text : List ℕ) → IsStrictlySortedBy (slice_cmp nat_cmp) (rising_words text)
unfolding rising_words
rising_words-rise text = IsStrictlySortedBy-fold (slice_cmp nat_cmp) nat_list_cmp_total (words text)

-- a test finds a word among those that rise where it finds one among those of the text
pub list_any-rising_words : (p : List ℕ → Bool) (text : List ℕ) → list_any p (rising_words text) ≡ list_any p (words text)
unfolding rising_words
list_any-rising_words p text = list_any-fold (slice_cmp nat_cmp) words_apart p (words text)

pub has_term-rising_words : (text : List ℕ) (term : Term) → has_term text term ≡ list_any (is_asked term) (rising_words text)
unfolding has_term
has_term-rising_words text term = sym (list_any-rising_words (is_asked term) text)

module _ (xs ys : List (List ℕ)) where
  Contains-from_same_tests : ((p : List ℕ → Bool) → list_any p xs ≡ list_any p ys) → (word : List ℕ) → Contains xs word → Contains ys word
  Contains-from_same_tests same word h =
      Contains-from_any word_tie word ys (sym (same (eq_by_cmp (slice_cmp nat_cmp) word)) ∙ list_any-from_Contains (eq_by_cmp_equiv nat_list_cmp_total) word xs h)

  list_any-from_same_members : ((word : List ℕ) → Contains xs word ↔ Contains ys word) → (word : List ℕ) → list_any (eq_by_cmp (slice_cmp nat_cmp) word) xs ≡ list_any (eq_by_cmp (slice_cmp nat_cmp) word) ys
  list_any-from_same_members same word =
      let ties = eq_by_cmp_equiv nat_list_cmp_total in
      both_ways _ _
      (λ h. list_any-from_Contains ties word ys ((same word).0 (Contains-from_any word_tie word xs h)))
      (λ h. list_any-from_Contains ties word xs ((same word).1 (Contains-from_any word_tie word ys h)))

pub Contains-rising_words : (text word : List ℕ) → Contains (rising_words text) word ↔ Contains (words text) word
Contains-rising_words text word =
    (Contains-from_same_tests _ _ (λ p. list_any-rising_words p text) word, Contains-from_same_tests _ _ (λ p. sym (list_any-rising_words p text)) word)

-- what rises and has the words of the text is the list of its words
pub rising_words-told : (text : List ℕ) (told : List (List ℕ)) → IsStrictlySortedBy (slice_cmp nat_cmp) told → ((word : List ℕ) → Contains told word ↔ Contains (words text) word) → told ≡ rising_words text
rising_words-told text told rises same =
    same_rising (slice_cmp nat_cmp) nat_list_cmp_total words_apart told (rising_words text) rises (rising_words-rise text)
    (λ word. list_any-from_same_members told (words text) same word ∙ sym (list_any-rising_words (eq_by_cmp (slice_cmp nat_cmp) word) text))
