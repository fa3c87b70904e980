-- A term whose letters are a word stands at none but the places to which a search of the text in lower case leads.
use Rattle.std.proofs.Common.{◌≡◌, ◌∙◌, ℕ, zero, suc, ◌+◌, ◌-◌, ◌<◌, ◌≤◌, Bool, true, false, min, not, List, [], ◌∷◌, drop, take, get_or, get_or-drop, get_or-take, length, nat_eq, refl, ap, sym, subst, arith, ⊎_elim}
use Rattle.std.proofs.lemmas.Bool.{and_parts, cases_eq, cases_lt, cond_both, eqb-true, false_from_ne_true, false≢true, leb-true, not-true, or_cases, or_left, or_right}
use Rattle.std.proofs.lemmas.List.{length-drop, length-map, length-take}
use Rattle.std.specs.Char.{to_ascii_lowercase}
use Rattle.std.specs.List.{list_any, list_all, starts_with}
use Rattle.memchr.specs.Find.{OccursAt, match_len, matches, matches_from, occurs_at}
use Rattle.memchr.proofs.lemmas.MatchLemmas.{OccursAt-true, occurs_at-true}
use Rattle.hac_model.specs.Query.Terms.{letters_in}
use Rattle.hac_model.specs.Query.Words.{has_bytes, has_term, is_lower_word_byte, is_word, is_word_byte, lower_case}
use Rattle.hac_model.specs.declared.terms.Term.{Term}
use Rattle.hac_model.specs.declared.terms.Term.TheVariants.{Word, Prefix}
use Rattle.hac_words.specs.Standing.{StandsNowhere, WindowTells, begins_with, may_begin, may_end, stands_at, window_at}
use Rattle.hac_words.proofs.RunLemmas.{is_word_byte-lower}
use Rattle.hac_words.proofs.StandLemmas.{has_term-found, has_term-place}

list_any-some : {X : Type 0} (p : X → Bool) (xs : List X) → list_any p xs ≡ true → (x : X) × (p x ≡ true)
list_any-some p [] some = absurd (false≢true some)
list_any-some p (x ∷ xs) some = ⊎_elim (λ here. (x, here)) (λ behind. list_any-some p xs behind) (or_cases (p x) (list_any p xs) some)

-- ---- each letter of a term that stands in the text is in it, be it as a capital

begins-letter : (letters text : List ℕ) (place : ℕ) → place < length letters → starts_with nat_eq (lower_case text) letters ≡ true → (place < length text) × (to_ascii_lowercase (get_or text place 0) ≡ get_or letters place 0)
begins-letter [] text place within begins = absurd (omega arith)
begins-letter (x ∷ letters) [] place within begins = absurd (false≢true begins)
begins-letter (x ∷ letters) (b ∷ rest) zero within begins = (omega arith, sym (eqb-true x (to_ascii_lowercase b) (and_parts _ _ begins).0))
begins-letter (x ∷ letters) (b ∷ rest) (suc place) within begins =
    let behind = begins-letter letters rest place (omega arith) (and_parts (nat_eq x (to_ascii_lowercase b)) _ begins).1 in
    (omega (arith, behind.0), behind.1)

term-letter : (term : Term) (text : List ℕ) (place : ℕ) → place < length (letters_in term) → begins_with text term ≡ true → (place < length text) × (to_ascii_lowercase (get_or text place 0) ≡ get_or (letters_in term) place 0)
unfolding begins_with
term-letter (Word letters) text place within begins = begins-letter letters text place within (and_parts (starts_with nat_eq (lower_case text) letters) (may_end text (length letters)) begins).0
term-letter (Prefix letters) text place within begins = begins-letter letters text place within begins

stands-letter : (term : Term) (text : List ℕ) (at place : ℕ) → place < length (letters_in term) → stands_at text at term ≡ true → (at + place < length text) × (to_ascii_lowercase (get_or text (at + place) 0) ≡ get_or (letters_in term) place 0)
unfolding stands_at
stands-letter term text at place within stands =
    let letter = term-letter term (drop at text) place within (and_parts (may_begin text at) (begins_with (drop at text) term) stands).1 in
    (omega (arith, letter.0, length-drop at text), ap to_ascii_lowercase (sym (get_or-drop at text place 0)) ∙ letter.1)

pub word-some : (letters : List ℕ) → is_word letters ≡ true → 0 < length letters
unfolding is_word
word-some letters word = leb-true 1 (length letters) (and_parts (has_bytes letters) (list_all is_lower_word_byte letters) word).0

-- a letter of a word is a word byte
word-letter : (letters : List ℕ) (place : ℕ) → list_all is_lower_word_byte letters ≡ true → place < length letters → is_word_byte (get_or letters place 0) ≡ true
unfolding is_lower_word_byte
word-letter [] place lower within = absurd (omega arith)
word-letter (x ∷ letters) zero lower within = (and_parts (is_word_byte x) _ (and_parts (is_lower_word_byte x) (list_all is_lower_word_byte letters) lower).0).0
word-letter (x ∷ letters) (suc place) lower within = word-letter letters place (and_parts (is_lower_word_byte x) (list_all is_lower_word_byte letters) lower).1 (omega arith)

-- no word begins behind a word byte
begins-apart : (text : List ℕ) (at : ℕ) → may_begin text (suc at) ≡ true → is_word_byte (get_or text at 0) ≡ false
unfolding may_begin
begins-apart text at begins =
    let before : suc at - 1 ≡ at = omega arith in
    ⊎_elim
    (λ first. absurd (omega (arith, eqb-true (suc at) 0 first)))
    (λ apart. not-true _ (subst (λ place. not (is_word_byte (get_or text place 0)) ≡ true) before apart))
    (or_cases (nat_eq (suc at) 0) (not (is_word_byte (get_or text (suc at - 1) 0))) begins)

-- ---- what is in a window

get_or-lower : (bytes : List ℕ) (place : ℕ) → get_or (lower_case bytes) place 0 ≡ to_ascii_lowercase (get_or bytes place 0)
get_or-lower [] place = refl
get_or-lower (b ∷ bytes) zero = refl
get_or-lower (b ∷ bytes) (suc place) = get_or-lower bytes place

window-reads : (size : ℕ) (text : List ℕ) (from place : ℕ) → place < size → get_or (window_at size text from) place 0 ≡ to_ascii_lowercase (get_or text (from + place) 0)
unfolding window_at
window-reads size text from place within =
    get_or-lower (take size (drop from text)) place
    ∙ ap to_ascii_lowercase (get_or-take size (drop from text) place 0 within ∙ get_or-drop from text place 0)

pub length-window_at : (size : ℕ) (text : List ℕ) (from : ℕ) → length (window_at size text from) ≡ min size (length text - from)
unfolding window_at
length-window_at size text from = length-map (take size (drop from text)) to_ascii_lowercase ∙ length-take size (drop from text) ∙ ap (min size) (length-drop from text)

-- ---- the matches in a window

-- of the matches none is passed over that passes a test, if none does that overlaps one before it
any-matches : (hay needle : List ℕ) (p : ℕ → Bool) → 0 < length needle → ((j k : ℕ) → OccursAt hay needle j → j < k → k < j + length needle → p k ≡ true → ⊥)
    → (skip i n k : ℕ) → i + skip ≤ k → k < i + n → OccursAt hay needle k → p k ≡ true → list_any p (matches_from hay needle skip i n) ≡ true
unfolding matches_from
any-matches hay needle p some apart skip i zero k low high occurs holds = absurd (omega arith)
any-matches hay needle p some apart zero i (suc n) k low high occurs holds =
    cond_both (occurs_at hay needle i) (i ∷ matches_from hay needle (match_len needle - 1) (i + 1) n) (matches_from hay needle 0 (i + 1) n) (λ list. list_any p list ≡ true)
    (λ here.
    ⊎_elim
    (λ same. or_left _ _ (subst (λ at. p at ≡ true) same holds))
    (λ other.
    let beyond : i + length needle ≤ k = ⊎_elim (λ within. absurd (apart i k (OccursAt-true hay needle i here) (omega arith) within holds)) (λ above. above) (cases_lt k (i + length needle)) in
    or_right _ _ (any-matches hay needle p some apart (match_len needle - 1) (i + 1) n k (omega arith) (omega arith) occurs holds))
    (cases_eq k i))
    (λ miss.
    ⊎_elim
    (λ same. absurd (false≢true (sym miss ∙ occurs_at-true hay needle i (subst (OccursAt hay needle) same occurs))))
    (λ other. any-matches hay needle p some apart 0 (i + 1) n k (omega arith) (omega arith) occurs holds)
    (cases_eq k i))
any-matches hay needle p some apart (suc skip) i (suc n) k low high occurs holds = any-matches hay needle p some apart skip (i + 1) n k (omega arith) (omega arith) occurs holds

module _ (term : Term) (word : is_word (letters_in term) ≡ true) (size : ℕ) (text : List ℕ) (from : ℕ) where
  abbrev stands_in : ℕ → Bool
  stands_in found = stands_at text (from + found) term

  -- where the term stands, its letters are in the window, unless they go beyond it
  occurs-window : (at : ℕ) → from ≤ at → at < from + (size + 1 - length (letters_in term)) → stands_at text at term ≡ true → OccursAt (window_at size text from) (letters_in term) (at - from)
  occurs-window at low high stands =
      let some = word-some (letters_in term) word in
      let last = stands-letter term text at (length (letters_in term) - 1) (omega arith) stands in
      record {
        fits = omega (arith, last.0, length-window_at size text from);
        reads = λ place within.
            let moved : from + (at - from + place) ≡ at + place = omega arith in
            window-reads size text from (at - from + place) (omega (arith, last.0))
            ∙ ap (λ i. to_ascii_lowercase (get_or text i 0)) moved
            ∙ (stands-letter term text at place within stands).1;
      }

  -- and it doesn't stand within other letters
  apart-window : (j k : ℕ) → OccursAt (window_at size text from) (letters_in term) j → j < k → k < j + length (letters_in term) → stands_in k ≡ true → ⊥
  unfolding stands_at is_word
  apart-window j k occurs low high stands =
      let before = k - 1 - j in
      let moved : from + k ≡ suc (from + (j + before)) = omega arith in
      let begins = (and_parts (may_begin text (from + k)) (begins_with (drop (from + k) text) term) stands).0 in
      let other = begins-apart text (from + (j + before)) (subst (λ at. may_begin text at ≡ true) moved begins) in
      let letter : is_word_byte (get_or (letters_in term) before 0) ≡ true = word-letter (letters_in term) before (and_parts (has_bytes (letters_in term)) _ word).1 (omega arith) in
      let read = window-reads size text from (j + before) (omega (arith, occurs.fits, length-window_at size text from)) in
      false≢true (sym other ∙ sym (is_word_byte-lower (get_or text (from + (j + before)) 0)) ∙ ap is_word_byte (sym read ∙ occurs.reads before (omega arith)) ∙ letter)

  -- what a window tells
  pub window-tells : (found : Bool) → found ≡ list_any stands_in (matches (window_at size text from) (letters_in term) 0) → WindowTells size text from term found
  window-tells true is =
      let some = list_any-some stands_in _ (sym is) in
      has_term-found term word text (from + some.0) some.1
  window-tells false is = λ at low high stands.
      let there : from + (at - from) ≡ at = omega arith in
      let occurs = occurs-window at low high stands in
      false≢true (is ∙ any-matches (window_at size text from) (letters_in term) stands_in (word-some (letters_in term) word) apart-window 0 0 _ (at - from) (omega arith) (omega (arith, occurs.fits)) occurs (subst (λ place. stands_at text place term ≡ true) (sym there) stands))

-- a term that stands at no place of the text isn't in it
pub stands-nowhere : (term : Term) (word : is_word (letters_in term) ≡ true) (text : List ℕ) (end : ℕ) → length text ≤ end → StandsNowhere text term 0 end → has_term text term ≡ false
stands-nowhere term word text end all nowhere =
    false_from_ne_true _ (λ has.
    let place = has_term-place term word text has in
    let first = stands-letter term text place.0 0 (word-some (letters_in term) word) place.1 in
    nowhere place.0 (omega arith) (omega (arith, first.0)) place.1)
