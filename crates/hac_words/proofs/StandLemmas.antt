-- A text has a term whose letters are a word exactly where a word begins at which the term stands.
use Rattle.std.proofs.Common.{◌≡◌, ◌&&◌, ◌||◌, ◌∙◌, ℕ, zero, suc, ◌-◌, Bool, true, false, cond, not, List, [], ◌∷◌, drop, get_or, length, nat_eq, refl, ap, sym, arith, ⊎_elim}
use Rattle.std.proofs.lemmas.Bool.{and_from, and_left, and_parts, false≢true, le-leb, ne_eqb, or_cases, or_left, or_right}
use Rattle.std.proofs.lemmas.Bool.Decides.{nat_tests}
use Rattle.std.specs.Char.{to_ascii_lowercase}
use Rattle.std.specs.List.{list_any, list_all, onto_first, slice_split, starts_with}
use Rattle.std.specs.Str.{bytes_eq}
use Rattle.hac_model.specs.Query.Terms.{letters_in}
use Rattle.hac_model.specs.Query.Words.{has_bytes, has_term, is_asked, is_lower_word_byte, is_word, is_word_byte, lower_case}
use Rattle.hac_model.specs.declared.terms.Term.{Term}
use Rattle.hac_model.specs.declared.terms.Term.TheVariants.{Word, Prefix}
use Rattle.hac_words.specs.Standing.{begins_with, may_begin, may_end, stands_at}
use Rattle.hac_words.proofs.RunLemmas.{has_term-parts}

-- ---- the parts of a text: the word bytes that it begins with, and the parts behind them

abbrev front : List ℕ → List ℕ
front [] = []
front (b ∷ rest) = cond (is_word_byte b) (b ∷ front rest) []

abbrev parts_of : List ℕ → List (List ℕ)
parts_of text = slice_split (λ b. not (is_word_byte b)) text

abbrev later : List ℕ → List (List ℕ)
later [] = []
later (b ∷ rest) = cond (is_word_byte b) (later rest) (parts_of rest)

parts-front : (text : List ℕ) → parts_of text ≡ front text ∷ later text
parts-front [] = refl
parts-front (b ∷ rest) =
    elim (is_word_byte b) as (λ t. cond (not t) ([] ∷ parts_of rest) (onto_first b (parts_of rest)) ≡ cond t (b ∷ front rest) [] ∷ cond t (later rest) (parts_of rest)) [
      | true ↦ ap (onto_first b) (parts-front rest)
      | false ↦ refl
    ]

-- ---- what the first part is, the text begins with

-- a letter of a word is no byte that separates words
letter-apart : (letter b : ℕ) → is_lower_word_byte letter ≡ true → is_word_byte b ≡ false → nat_eq letter (to_ascii_lowercase b) ≡ false
unfolding is_lower_word_byte is_word_byte
letter-apart letter b lower other = grind (arith, nat_tests)

begins-front : (letters text : List ℕ) → list_all is_lower_word_byte letters ≡ true → starts_with nat_eq (lower_case (front text)) letters ≡ starts_with nat_eq (lower_case text) letters
begins-front [] text lower = refl
begins-front (x ∷ letters) [] lower = refl
begins-front (x ∷ letters) (b ∷ rest) lower =
    let each = and_parts (is_lower_word_byte x) (list_all is_lower_word_byte letters) lower in
    elim (is_word_byte b) as (λ t. is_word_byte b ≡ t → starts_with nat_eq (lower_case (cond t (b ∷ front rest) [])) (x ∷ letters) ≡ starts_with nat_eq (lower_case (b ∷ rest)) (x ∷ letters)) [
      | true ↦ λ is. ap (λ t. nat_eq x (to_ascii_lowercase b) && t) (begins-front letters rest each.1)
      | false ↦ λ other. sym (and_left _ _ (letter-apart x b each.0 other))
    ] refl

and_assoc : (a b c : Bool) → (a && (b && c)) ≡ ((a && b) && c)
and_assoc true b c = refl
and_assoc false b c = refl

ends_here : (b : ℕ) (run rest : List ℕ) → bytes_eq [] (lower_case (cond (is_word_byte b) (b ∷ run) [])) ≡ may_end (b ∷ rest) 0
unfolding may_end
ends_here b run rest = elim (is_word_byte b) as (λ t. bytes_eq [] (lower_case (cond t (b ∷ run) [])) ≡ not t) [ true ↦ refl | false ↦ refl ]

whole-front : (letters text : List ℕ) → list_all is_lower_word_byte letters ≡ true → bytes_eq letters (lower_case (front text)) ≡ (starts_with nat_eq (lower_case text) letters && may_end text (length letters))
unfolding may_end is_word_byte
whole-front [] [] lower = refl
whole-front [] (b ∷ rest) lower = ends_here b (front rest) rest
whole-front (x ∷ letters) [] lower = refl
whole-front (x ∷ letters) (b ∷ rest) lower =
    let each = and_parts (is_lower_word_byte x) (list_all is_lower_word_byte letters) lower in
    elim (is_word_byte b) as (λ t. is_word_byte b ≡ t → bytes_eq (x ∷ letters) (lower_case (cond t (b ∷ front rest) [])) ≡ (starts_with nat_eq (lower_case (b ∷ rest)) (x ∷ letters) && may_end rest (length letters))) [
      | true ↦ λ is. ap (λ t. nat_eq x (to_ascii_lowercase b) && t) (whole-front letters rest each.1) ∙ and_assoc (nat_eq x (to_ascii_lowercase b)) _ _
      | false ↦ λ other. sym (and_left _ _ (and_left _ _ (letter-apart x b each.0 other)))
    ] refl

-- the first part is what the term asks for exactly where the text begins with it
asked-front : (text : List ℕ) (term : Term) → is_word (letters_in term) ≡ true → is_asked term (lower_case (front text)) ≡ begins_with text term
unfolding begins_with is_word
asked-front text (Word letters) word = whole-front letters text (and_parts (has_bytes letters) (list_all is_lower_word_byte letters) word).1
asked-front text (Prefix letters) word = begins-front letters text (and_parts (has_bytes letters) (list_all is_lower_word_byte letters) word).1

-- letters of a word are some, so what is asked for has bytes
asked-some : (run : List ℕ) (term : Term) → is_word (letters_in term) ≡ true → (has_bytes run && is_asked term (lower_case run)) ≡ is_asked term (lower_case run)
unfolding is_word
asked-some [] (Word []) word = absurd (false≢true word)
asked-some [] (Prefix []) word = absurd (false≢true word)
asked-some [] (Word (x ∷ letters)) word = refl
asked-some [] (Prefix (x ∷ letters)) word = refl
asked-some (b ∷ run) term word = ap (λ t. t && is_asked term (lower_case (b ∷ run))) (le-leb 1 (suc (length run)) (omega arith))

begins-nothing : (term : Term) → is_word (letters_in term) ≡ true → begins_with [] term ≡ false
unfolding begins_with is_word
begins-nothing (Word []) word = absurd (false≢true word)
begins-nothing (Prefix []) word = absurd (false≢true word)
begins-nothing (Word (x ∷ letters)) word = refl
begins-nothing (Prefix (x ∷ letters)) word = refl

-- ---- from part to part, and from byte to byte

module _ (term : Term) (word : is_word (letters_in term) ≡ true) where
  abbrev asks : List ℕ → Bool
  asks run = has_bytes run && is_asked term (lower_case run)

  -- some word of the text is what the term asks for; the first may only begin where the text does if no word is open before it
  abbrev somewhere : Bool → List ℕ → Bool
  somewhere fresh [] = false
  somewhere fresh (b ∷ rest) = (fresh && begins_with (b ∷ rest) term) || somewhere (not (is_word_byte b)) rest

  somewhere-fresh : (text : List ℕ) → somewhere true text ≡ (begins_with text term || somewhere false text)
  somewhere-fresh [] = ap (λ t. t || false) (sym (begins-nothing term word))
  somewhere-fresh (b ∷ rest) = refl

  parts-somewhere : (text : List ℕ) → list_any asks (later text) ≡ somewhere false text → list_any asks (parts_of text) ≡ somewhere true text
  parts-somewhere text behind =
      ap (list_any asks) (parts-front text)
      ∙ (λ i. (asked-some (front text) term word ∙ asked-front text term word) i || behind i)
      ∙ sym (somewhere-fresh text)

  later-somewhere : (text : List ℕ) → list_any asks (later text) ≡ somewhere false text
  later-somewhere [] = refl
  later-somewhere (b ∷ rest) =
      elim (is_word_byte b) as (λ t. list_any asks (cond t (later rest) (parts_of rest)) ≡ somewhere (not t) rest) [
        | true ↦ later-somewhere rest
        | false ↦ parts-somewhere rest (later-somewhere rest)
      ]

  has_term-somewhere : (text : List ℕ) → has_term text term ≡ somewhere true text
  has_term-somewhere text = has_term-parts text term ∙ parts-somewhere text (later-somewhere text)

  -- ---- from bytes to places

  -- a word may begin at the place of a text, before which no word is open if it is fresh
  abbrev may_open : Bool → List ℕ → ℕ → Bool
  may_open fresh text zero = fresh
  may_open fresh text (suc at) = not (is_word_byte (get_or text at 0))

  may_open-next : (fresh : Bool) (b : ℕ) (rest : List ℕ) (at : ℕ) → may_open fresh (b ∷ rest) (suc at) ≡ may_open (not (is_word_byte b)) rest at
  may_open-next fresh b rest zero = refl
  may_open-next fresh b rest (suc at) = refl

  somewhere-found : (fresh : Bool) (text : List ℕ) (at : ℕ) → may_open fresh text at ≡ true → begins_with (drop at text) term ≡ true → somewhere fresh text ≡ true
  somewhere-found fresh [] zero opens begins = absurd (false≢true (sym (begins-nothing term word) ∙ begins))
  somewhere-found fresh [] (suc at) opens begins = absurd (false≢true (sym (begins-nothing term word) ∙ begins))
  somewhere-found fresh (b ∷ rest) zero opens begins = or_left _ _ (and_from _ _ opens begins)
  somewhere-found fresh (b ∷ rest) (suc at) opens begins = or_right _ _ (somewhere-found (not (is_word_byte b)) rest at (sym (may_open-next fresh b rest at) ∙ opens) begins)

  somewhere-place : (fresh : Bool) (text : List ℕ) → somewhere fresh text ≡ true → (at : ℕ) × (may_open fresh text at ≡ true) × (begins_with (drop at text) term ≡ true)
  somewhere-place fresh [] found = absurd (false≢true found)
  somewhere-place fresh (b ∷ rest) found =
      ⊎_elim
      (λ here.
      let both = and_parts fresh (begins_with (b ∷ rest) term) here in
      (0, both.0, both.1))
      (λ behind.
      let place = somewhere-place (not (is_word_byte b)) rest behind in
      (suc place.0, may_open-next fresh b rest place.0 ∙ place.1, place.2))
      (or_cases (fresh && begins_with (b ∷ rest) term) (somewhere (not (is_word_byte b)) rest) found)

  may_open-begin : (text : List ℕ) (at : ℕ) → may_open true text at ≡ may_begin text at
  unfolding may_begin
  may_open-begin text zero = refl
  may_open-begin text (suc at) =
      let first : nat_eq (suc at) 0 ≡ false = ne_eqb (suc at) 0 (λ e. absurd (omega arith)) in
      let before : suc at - 1 ≡ at = omega arith in
      λ i. sym first i || not (is_word_byte (get_or text (sym before i) 0))

  -- where a word begins that is what the term asks for, the text has the term
  pub has_term-found : (text : List ℕ) (at : ℕ) → stands_at text at term ≡ true → has_term text term ≡ true
  unfolding stands_at
  has_term-found text at stands =
      let both = and_parts (may_begin text at) (begins_with (drop at text) term) stands in
      has_term-somewhere text ∙ somewhere-found true text at (may_open-begin text at ∙ both.0) both.1

  -- and where the text has the term, there is such a place
  pub has_term-place : (text : List ℕ) → has_term text term ≡ true → (at : ℕ) × (stands_at text at term ≡ true)
  unfolding stands_at
  has_term-place text has =
      let place = somewhere-place true text (sym (has_term-somewhere text) ∙ has) in
      (place.0, and_from _ _ (sym (may_open-begin text place.0) ∙ place.1) place.2)
