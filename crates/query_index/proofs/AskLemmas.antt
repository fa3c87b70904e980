-- What a word is looked up for, and what terms ask for.
use Rattle.std.proofs.Common.{◌≡◌, ℕ, suc, ◌+◌, ◌<◌, Bool, true, false, List, [], length, get_or, take, refl, ap, sym, ◌∙◌, arith, inl, inr, Result, Ok, Err, Ordering}
use Rattle.std.specs.Prelude.{◌||◌, nat_eq, is_ok}
use Rattle.std.specs.Cmp.Lexicographic.{nat_list_cmp_total, slice_cmp, texts_ties}
use Rattle.std.specs.List.{list_any, starts_with}
use Rattle.std.specs.List.Sorted.{IsBinarySearchResult, IsSearchInRange, IsSortedBy, IsStrictlySortedBy}
use Rattle.std.specs.Ordering.{is_eq, is_lt, nat_cmp, ordering_reverse}
use Rattle.std.specs.Str.{bytes_eq}
use Rattle.std.specs.declared.cmp.Ordering.TheVariants.{Less, Greater}
use Rattle.std.proofs.lemmas.Bool.{cases_lt}
use Rattle.std.proofs.lemmas.List.{length-take}
use Rattle.std.proofs.lemmas.List.Folds.{list_any_at}
use Rattle.std.proofs.lemmas.List.Recursion.{or_from_places}
use Rattle.std.proofs.lemmas.List.Sorted.{searchable_from_sorted}
use Rattle.std.proofs.lemmas.Map.Keys.{Less-from_sorted}
use Rattle.std.proofs.lemmas.Slice.Eq.{bytes_eq-Decides}
use Rattle.hac_model.specs.Query.Terms.{is_same_term}
use Rattle.hac_model.specs.Query.Words.{is_asked}
use Rattle.hac_model.specs.declared.terms.Term.{Term}
use Rattle.hac_model.specs.declared.terms.Term.TheVariants.{Word, Prefix}
use Rattle.query_index.specs.Asking.{is_listed}
use Rattle.query_index.specs.Numbers.{any_below}
use Rattle.query_index.proofs.ListLemmas.{any-either, below-any, below-at, below-none, below-some}
use Rattle.hac_model.proofs.NameOrderLemmas.{same-turned}
use Rattle.hac_model.proofs.BoolLemmas.{agree, or-false}

-- ---- one term

-- a word begins with letters where one of its beginnings is the letters
pub begins : (word letters : List ℕ) → any_below (suc (length word)) (λ k. bytes_eq (take k word) letters) ≡ starts_with nat_eq word letters
begins word letters = agree (any_below (suc (length word)) (λ k. bytes_eq (take k word) letters)) (starts_with nat_eq word letters) there back
  where
    there : any_below (suc (length word)) (λ k. bytes_eq (take k word) letters) ≡ true → starts_with nat_eq word letters ≡ true
    there is =
        let some = below-some (λ k. bytes_eq (take k word) letters) (suc (length word)) is in
        let same : take some.0 word ≡ letters = (bytes_eq-Decides (take some.0 word) letters).0 some.2 in
        let long : length letters ≡ some.0 = omega (arith, some.1, ap length same, length-take some.0 word) in
        (bytes_eq-Decides letters (take (length letters) word)).1 (sym same ∙ ap (λ (k : ℕ). take k word) (sym long))

    back : starts_with nat_eq word letters ≡ true → any_below (suc (length word)) (λ k. bytes_eq (take k word) letters) ≡ true
    back is =
        let same : letters ≡ take (length letters) word = (bytes_eq-Decides letters (take (length letters) word)).0 is in
        let short : length letters < suc (length word) = omega (arith, ap length same, length-take (length letters) word) in
        below-at (λ k. bytes_eq (take k word) letters) (suc (length word)) (length letters) short ((bytes_eq-Decides (take (length letters) word) letters).1 (sym same))

-- a term asks for a word where it is the word, or one of its beginnings
one-asked : (word : List ℕ) (term : Term) → (is_same_term (Word word) term || any_below (suc (length word)) (λ k. is_same_term (Prefix (take k word)) term)) ≡ is_asked term word
one-asked word (Word letters) = ap (λ (b : Bool). bytes_eq word letters || b) (below-none (suc (length word))) ∙ or-false (bytes_eq word letters) ∙ same-turned word letters
one-asked word (Prefix letters) = begins word letters

-- and so do terms
pub some-asked : (word : List ℕ) (terms : List Term) →
    (list_any (is_same_term (Word word)) terms || any_below (suc (length word)) (λ k. list_any (is_same_term (Prefix (take k word))) terms)) ≡ list_any (λ term. is_asked term word) terms
some-asked word terms =
    ap (λ (b : Bool). list_any (is_same_term (Word word)) terms || b) (below-any (λ k term. is_same_term (Prefix (take k word)) term) terms (suc (length word)))
    ∙ sym (any-either (is_same_term (Word word)) (λ term. any_below (suc (length word)) (λ k. is_same_term (Prefix (take k word)) term)) terms)
    ∙ (λ i. list_any (λ term. one-asked word term i) terms)

-- ---- a word among others

tied : (word other : List ℕ) (order : Ordering) → slice_cmp nat_cmp other word ≡ order → is_eq order ≡ false → bytes_eq word other ≡ false
tied word other order is apart = same-turned word other ∙ texts_ties other word ∙ ap is_eq is ∙ apart

falls : (words : List (List ℕ)) → IsStrictlySortedBy (slice_cmp nat_cmp) words → IsSortedBy (λ a b. is_lt (slice_cmp nat_cmp a b)) words
falls words rise k d low inside =
    ap is_lt (nat_list_cmp_total.antisymm (get_or words (k + 1) d) (get_or words k d) ∙ ap ordering_reverse (Less-from_sorted (slice_cmp nat_cmp) words k (k + 1) d rise (omega arith) inside))

pub among : (words : List (List ℕ)) (word : List ℕ) (r : Result ℕ ℕ) → IsStrictlySortedBy (slice_cmp nat_cmp) words → IsSearchInRange r (length words) → IsBinarySearchResult (λ y. slice_cmp nat_cmp y word) words r →
    is_ok r ≡ is_listed words word
among words word (Ok i) rise inside found =
    sym (list_any_at (bytes_eq word) words i [] inside (same-turned word (get_or words i []) ∙ texts_ties (get_or words i []) word ∙ ap is_eq (found [])))
among words word (Err i) rise inside found =
    let parts = found (searchable_from_sorted nat_list_cmp_total (λ w. w) words word (falls words rise)) in
    sym (or_from_places (list_any (bytes_eq word)) (bytes_eq word) refl (λ _ _. refl) words [] (λ k within. elim (cases_lt k i) [
      | inl low ↦ tied word (get_or words k []) Less (parts.0 k [] (omega arith) low) refl
      | inr high ↦ tied word (get_or words k []) Greater (parts.1 k [] high within) refl
    ]))
