-- Words that a term asks for, in the order of words: they stand together.
use Rattle.std.proofs.Common.{[], ap, Bool, false, List, Ordering, refl, subst, sym, true, ℕ, ◌&&◌, ◌-◌, ◌∙◌, ◌∷◌, ◌≡◌}
use Rattle.std.specs.Cmp.{Equal-is, nat_cmp_is}
use Rattle.std.specs.Ordering.{is_le, nat_cmp, ordering_reverse, ordering_then}
use Rattle.std.specs.declared.cmp.Ordering.TheVariants.{Equal, Greater, Less}
use Rattle.std.specs.Prelude.{nat_eq}
use Rattle.std.proofs.lemmas.Bool.{eq-eqb, eqb-true, false≢true}
use Rattle.std.specs.FinMap.{nat_cmp-IsAntisymmetric}
use Rattle.std.proofs.lemmas.Cmp.{nat_cmp_total}
use Rattle.std.specs.Cmp.Lexicographic.{nat_list_cmp_total, slice_cmp}
use Rattle.std.specs.List.{starts_with}
use Rattle.std.specs.Str.{bytes_eq}
use Rattle.std.proofs.lemmas.Map.Text.{is_eq-slice_cmp}
use Rattle.hac_model.specs.Query.Terms.{letters_in}
use Rattle.hac_model.specs.Query.Words.{is_asked}
use Rattle.hac_model.specs.declared.terms.Term.{Term}
use Rattle.hac_model.specs.declared.terms.Term.TheVariants.{Prefix, Word}
use Rattle.hac_words.proofs.RisingLemmas.{words_apart}

pub first : (a b : Bool) → (a && b) ≡ true → a ≡ true
first true b both = refl
first false b both = both

second : (a b : Bool) → (a && b) ≡ true → b ≡ true
second true b both = both
second false b both = absurd cc

cmp_same : (n : ℕ) → nat_cmp n n ≡ Equal
cmp_same n = sym (nat_cmp_is n n Equal refl)

from-byte : (l b : ℕ) (rest : Bool) (order : Ordering) → (nat_eq l b && rest) ≡ true →
    (rest ≡ true → is_le order ≡ true) → is_le (ordering_then (nat_cmp l b) order) ≡ true
from-byte l b rest order begins leads =
    subst (λ (b : ℕ). is_le (ordering_then (nat_cmp l b) order) ≡ true)
    (eqb-true l b (first (nat_eq l b) rest begins))
    (rw (cmp_same l) (leads (second (nat_eq l b) rest begins)))

stays-byte : (l b c : ℕ) (rest here : Bool) (le less : Ordering) →
    is_le (ordering_then (nat_cmp l b) le) ≡ true →
    ordering_then (nat_cmp b c) less ≡ Less → (nat_eq l c && rest) ≡ true →
    (is_le le ≡ true → less ≡ Less → rest ≡ true → here ≡ true) → (nat_eq l b && here) ≡ true
stays-byte l b c rest here le less from before begins leads =
    let is : l ≡ c = eqb-true l c (first (nat_eq l c) rest begins) in
    let back : ordering_then (ordering_reverse (nat_cmp l b)) less ≡ Less =
    ap (λ order. ordering_then order less) (sym (nat_cmp_total.antisymm b l))
    ∙ subst (λ (n : ℕ). ordering_then (nat_cmp b n) less ≡ Less) (sym is) before in
    elim (nat_cmp l b) as (λ order. nat_cmp l b ≡ order →
    is_le (ordering_then order le) ≡ true →
    ordering_then (ordering_reverse order) less ≡ Less → (nat_eq l b && here) ≡ true) [
      | Less ↦ λ tie from back. absurd cc
      | Equal ↦ λ tie from back.
          rw (eq-eqb l b (nat_cmp-IsAntisymmetric l b tie))
          (leads from back (second (nat_eq l c) rest begins))
      | Greater ↦ λ tie from back. absurd cc
    ] refl from back

from-prefix : (letters word : List ℕ) → starts_with nat_eq word letters ≡ true →
    is_le (slice_cmp nat_cmp letters word) ≡ true
from-prefix [] [] begins = refl
from-prefix [] (b ∷ word) begins = refl
from-prefix (l ∷ letters) [] begins = absurd cc
from-prefix (l ∷ letters) (b ∷ word) begins =
    from-byte l b (starts_with nat_eq word letters) (slice_cmp nat_cmp letters word) begins
    (from-prefix letters word)

stays-prefix : (letters word later : List ℕ) → is_le (slice_cmp nat_cmp letters word) ≡ true →
    slice_cmp nat_cmp word later ≡ Less → starts_with nat_eq later letters ≡ true →
    starts_with nat_eq word letters ≡ true
stays-prefix [] word later from before begins = refl
stays-prefix (l ∷ letters) [] later from before begins = absurd cc
stays-prefix (l ∷ letters) (b ∷ word) [] from before begins = absurd cc
stays-prefix (l ∷ letters) (b ∷ word) (c ∷ later) from before begins =
    stays-byte l b c (starts_with nat_eq later letters) (starts_with nat_eq word letters)
    (slice_cmp nat_cmp letters word) (slice_cmp nat_cmp word later) from before begins
    (stays-prefix letters word later)

same_word : (letters word : List ℕ) → bytes_eq letters word ≡ true →
    slice_cmp nat_cmp letters word ≡ Equal
same_word letters word same =
    (Equal-is (slice_cmp nat_cmp letters word)).0 (is_eq-slice_cmp letters word ∙ same)

-- they aren't before its letters
pub asked-from : (term : Term) (word : List ℕ) → is_asked term word ≡ true →
    is_le (slice_cmp nat_cmp (letters_in term) word) ≡ true
asked-from (Word letters) word asked = ap is_le (same_word letters word asked)
asked-from (Prefix letters) word asked = from-prefix letters word asked

-- and none is behind another word that isn't before its letters
pub asked-stays : (term : Term) (word later : List ℕ) →
    is_le (slice_cmp nat_cmp (letters_in term) word) ≡ true →
    slice_cmp nat_cmp word later ≡ Less → is_asked term later ≡ true → is_asked term word ≡ true
asked-stays (Word letters) word later from before asked =
    let same : letters ≡ later = words_apart letters later (same_word letters later asked) in
    let behind : is_le (slice_cmp nat_cmp letters word) ≡ false =
    ap is_le (nat_list_cmp_total.antisymm letters word ∙ ap ordering_reverse
    (subst (λ (l : List ℕ). slice_cmp nat_cmp word l ≡ Less) (sym same) before)) in
    absurd (false≢true (sym behind ∙ from))
asked-stays (Prefix letters) word later from before asked =
    stays-prefix letters word later from before asked

pub isnt : (a b : Bool) → (a ≡ true → b ≡ true) → b ≡ false → a ≡ false
isnt false b leads isnt_b = refl
isnt true b leads isnt_b = sym (leads refl) ∙ isnt_b
