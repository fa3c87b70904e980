-- The runs of a text: in lower case they are its words, and what one of them passes, one of the parts between other
-- bytes passes.
use Rattle.std.proofs.Common.{◌≡◌, ◌&&◌, ◌||◌, ℕ, ◌≤◌, Bool, true, false, cond, not, List, [], ◌∷◌, map, filter, length, nat_eq, nat_le, refl, ap, ◌∙◌, arith}
use Rattle.std.proofs.lemmas.List.{length-map}
use Rattle.std.proofs.lemmas.List.Elements.{All-filter, All-from_recursion, All-map, filter_passes}
use Rattle.std.proofs.lemmas.List.Folds.{list_all-map}
use Rattle.std.proofs.lemmas.Bool.Decides.{nat_tests}
use Rattle.std.specs.Char.{to_ascii_lowercase}
use Rattle.std.specs.List.{All, AllByRecursion, list_any, list_all, onto_first, slice_split, starts_with, zip}
use Rattle.hac_model.specs.Query.Words.{has_bytes, has_term, is_asked, is_lower_word_byte, is_word, is_word_byte, lower_case, runs, words}
use Rattle.hac_model.specs.declared.terms.Term.{Term}

module _ {X : Type 0} where
  list_any-filter : (p q : X → Bool) (xs : List X) → list_any q (filter p xs) ≡ list_any (λ x. p x && q x) xs
  list_any-filter p q [] = refl
  list_any-filter p q (x ∷ xs) =
      elim (p x) as (λ b. list_any q (cond b (x ∷ filter p xs) (filter p xs)) ≡ ((b && q x) || list_any (λ y. p y && q y) xs)) [
        | true ↦ ap (λ b. q x || b) (list_any-filter p q xs)
        | false ↦ list_any-filter p q xs
      ]

  pub list_any-map : {Y : Type 0} (p : Y → Bool) (f : X → Y) (xs : List X) → list_any p (map f xs) ≡ list_any (λ x. p (f x)) xs
  list_any-map p f [] = refl
  list_any-map p f (x ∷ xs) = ap (λ b. p (f x) || b) (list_any-map p f xs)

  map-onto_first : {Y : Type 0} (f : X → Y) (x : X) (parts : List (List X)) → onto_first (f x) (map (map f) parts) ≡ map (map f) (onto_first x parts)
  map-onto_first f x [] = refl
  map-onto_first f x (part ∷ parts) = refl

  slice_split-map : {Y : Type 0} (p : Y → Bool) (f : X → Y) (xs : List X) → slice_split p (map f xs) ≡ map (map f) (slice_split (λ x. p (f x)) xs)
  slice_split-map p f [] = refl
  slice_split-map p f (x ∷ xs) =
      elim (p (f x)) as (λ b. cond b ([] ∷ slice_split p (map f xs)) (onto_first (f x) (slice_split p (map f xs))) ≡ map (map f) (cond b ([] ∷ slice_split (λ y. p (f y)) xs) (onto_first x (slice_split (λ y. p (f y)) xs)))) [
        | true ↦ ap (λ parts. [] ∷ parts) (slice_split-map p f xs)
        | false ↦ ap (onto_first (f x)) (slice_split-map p f xs) ∙ map-onto_first f x (slice_split (λ y. p (f y)) xs)
      ]

  filter-map : {Y : Type 0} (p : Y → Bool) (f : X → Y) (xs : List X) → filter p (map f xs) ≡ map f (filter (λ x. p (f x)) xs)
  filter-map p f [] = refl
  filter-map p f (x ∷ xs) =
      elim (p (f x)) as (λ b. cond b (f x ∷ filter p (map f xs)) (filter p (map f xs)) ≡ map f (cond b (x ∷ filter (λ y. p (f y)) xs) (filter (λ y. p (f y)) xs))) [
        | true ↦ ap (λ ys. f x ∷ ys) (filter-map p f xs)
        | false ↦ filter-map p f xs
      ]

-- a text has what is asked where a part between other bytes has bytes and is it in lower case
pub has_term-parts : (text : List ℕ) (term : Term) → has_term text term ≡ list_any (λ run. has_bytes run && is_asked term (lower_case run)) (slice_split (λ b. not (is_word_byte b)) text)
unfolding has_term words
has_term-parts text term =
    list_any-map (is_asked term) lower_case (runs text)
    ∙ list_any-filter has_bytes (λ run. is_asked term (lower_case run)) (slice_split (λ b. not (is_word_byte b)) text)

-- lower case makes no byte a word byte, and none another byte
pub is_word_byte-lower : (b : ℕ) → is_word_byte (to_ascii_lowercase b) ≡ is_word_byte b
unfolding is_word_byte
is_word_byte-lower b = grind (arith, nat_tests)

has_bytes-lower : (bytes : List ℕ) → has_bytes (lower_case bytes) ≡ has_bytes bytes
has_bytes-lower bytes = ap (nat_le 1) (length-map bytes to_ascii_lowercase)

-- the runs of a text in lower case are its words
pub runs-lower_case : (text : List ℕ) → runs (lower_case text) ≡ words text
unfolding words
runs-lower_case text =
    ap (filter has_bytes) (slice_split-map (λ b. not (is_word_byte b)) to_ascii_lowercase text)
    ∙ (λ i. filter has_bytes (map lower_case (slice_split (λ b. not (is_word_byte-lower b i)) text)))
    ∙ filter-map has_bytes lower_case (slice_split (λ b. not (is_word_byte b)) text)
    ∙ (λ i. map lower_case (filter (λ run. has_bytes-lower run i) (slice_split (λ b. not (is_word_byte b)) text)))

-- letters that go on after the run has ended aren't its beginning
pub begins-zip : (letters run : List ℕ) → length letters ≤ length run → list_all (λ p. nat_eq p.0 (to_ascii_lowercase p.1)) (zip letters run) ≡ starts_with nat_eq (lower_case run) letters
begins-zip [] run h = refl
begins-zip (x ∷ letters) [] h = absurd (omega arith)
begins-zip (x ∷ letters) (b ∷ run) h = ap (λ t. nat_eq x (to_ascii_lowercase b) && t) (begins-zip letters run (omega arith))

-- ---- the words are words

module _ {X : Type 0} (q : X → Bool) where
  onto_first-passes : (x : X) (parts : List (List X)) → q x ≡ true → AllByRecursion (λ part. list_all q part ≡ true) parts → AllByRecursion (λ part. list_all q part ≡ true) (onto_first x parts)
  onto_first-passes x [] passes h = (ap (λ b. b && true) passes, tt)
  onto_first-passes x (part ∷ parts) passes h = ((λ i. passes i && h.0 i), h.1)

  -- each part between the elements that fail a test passes it
  slice_split-passes : (xs : List X) → AllByRecursion (λ part. list_all q part ≡ true) (slice_split (λ x. not (q x)) xs)
  slice_split-passes [] = (refl, tt)
  slice_split-passes (x ∷ xs) =
      elim (q x) as (λ b. q x ≡ b → AllByRecursion (λ part. list_all q part ≡ true) (cond (not b) ([] ∷ slice_split (λ y. not (q y)) xs) (onto_first x (slice_split (λ y. not (q y)) xs)))) [
        | true ↦ λ passes. onto_first-passes x (slice_split (λ y. not (q y)) xs) passes (slice_split-passes xs)
        | false ↦ λ fails. (refl, slice_split-passes xs)
      ] refl

is_lower_word_byte-lower : (b : ℕ) → is_lower_word_byte (to_ascii_lowercase b) ≡ is_word_byte b
unfolding is_lower_word_byte is_word_byte
is_lower_word_byte-lower b = grind (arith, nat_tests)

-- word bytes in lower case are a word
is_word-lower_case : (run : List ℕ) → has_bytes run ≡ true → list_all is_word_byte run ≡ true → is_word (lower_case run) ≡ true
unfolding is_word
is_word-lower_case run some all =
    let lower : list_all is_lower_word_byte (lower_case run) ≡ true =
    list_all-map is_lower_word_byte to_ascii_lowercase run ∙ (λ i. list_all (λ b. is_lower_word_byte-lower b i) run) ∙ all in
    λ i. (has_bytes-lower run ∙ some) i && lower i

pub words-are_words : (text : List ℕ) → All (λ word. is_word word ≡ true) (words text)
unfolding words
words-are_words text =
    let parts = slice_split (λ b. not (is_word_byte b)) text in
    let passes = All-filter has_bytes (λ part. list_all is_word_byte part ≡ true) parts (All-from_recursion (λ part. list_all is_word_byte part ≡ true) parts (slice_split-passes is_word_byte text)) in
    All-map (λ word. is_word word ≡ true) lower_case (runs text) (λ k d h. is_word-lower_case _ (filter_passes has_bytes parts k d h) (passes k d h))
