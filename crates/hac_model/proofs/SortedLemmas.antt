-- Lists in which what passes a test comes first, and numbers that rise: what a binary search says of them.
use Rattle.std.proofs.Common.{[], add-one, ap, arith, Bool, drop, drop-cons, false, get_or, inl, inr, length, List, refl, subst, suc, sym, true, zero, ℕ, ◌+◌, ◌-◌, ◌<◌, ◌∙◌, ◌∷◌, ◌≡◌, ◌≤◌}
use Rattle.std.specs.Prelude.{Err, is_ok, Ok, Result, slice_index, ◌==◌, ◌||◌}
use Rattle.std.specs.List.{AllByRecursion, prefix_len}
use Rattle.std.specs.List.Sorted.{IsBinarySearchResult, IsPartitionedBy, IsPartitionPoint, IsStrictlyIncreasing}
use Rattle.std.specs.Ordering.{is_le, nat_cmp}
use Rattle.std.proofs.lemmas.Bool.{cases_lt, eq-eqb, ne_eqb}
use Rattle.std.proofs.lemmas.List.Sorted.{searched}
use Rattle.hac_model.specs.Tree.Links.{has}
use Rattle.hac_model.specs.Tree.Valid.{RiseFrom}
use Rattle.std.proofs.lemmas.Bool.Decides.{nat_tests}
use Rattle.hac_model.proofs.BoolLemmas.{or-true}

-- Lists of anything.

pub all-index : {X : Type 0} (P : X → Type 0) (xs : List X) (i : ℕ) (d : X) → AllByRecursion P xs → i < length xs → P (get_or xs i d)
all-index P [] i d h inside = absurd (omega arith)
all-index P (x ∷ xs) zero d h inside = h.0
all-index P (x ∷ xs) (suc i) d h inside = all-index P xs i d h.1 (omega arith)

-- what passes the test comes before what doesn't
abbrev pub Falls : {X : Type 0} → (X → Bool) → List X → Type 0
Falls p [] = Unit {0}
Falls p (x ∷ xs) = AllByRecursion (λ y. p y ≡ true → p x ≡ true) xs × Falls p xs

pub falls-partition : {X : Type 0} (p : X → Bool) (xs : List X) → Falls p xs → IsPartitionedBy p xs
falls-partition p [] h i j d le inside passes = absurd (omega arith)
falls-partition p (x ∷ xs) h zero zero d le inside passes = passes
falls-partition p (x ∷ xs) h zero (suc j) d le inside passes = all-index (λ y. p y ≡ true → p x ≡ true) xs j d h.0 (omega arith) passes
falls-partition p (x ∷ xs) h (suc i) zero d le inside passes = absurd (omega arith)
falls-partition p (x ∷ xs) h (suc i) (suc j) d le inside passes = falls-partition p xs h.1 i j d (omega arith) (omega arith) passes

-- the first `n` elements pass the test, and no others do: then `n` is how many first ones pass it
pub prefix-point : {X : Type 0} (p : X → Bool) (xs : List X) (i : ℕ) → i ≤ length xs → IsPartitionPoint (λ x. p x ≡ true) (λ x. p x ≡ false) xs i → i ≡ prefix_len p xs
prefix-point p [] i inside h = omega arith
prefix-point p (x ∷ xs) zero inside h = let first : p x ≡ false = h.1 0 x (omega arith) (omega arith) in rw first refl
prefix-point p (x ∷ xs) (suc i) inside h =
    let first : p x ≡ true = h.0 0 x (omega arith) (omega arith) in
    let rest : i ≡ prefix_len p xs = prefix-point p xs i (omega arith) ((λ k d low high. h.0 (suc k) d (omega arith) (omega arith)), (λ k d low high. h.1 (suc k) d (omega arith) (omega arith))) in
    rw first (omega arith)

pub drop-next : {X : Type 0} (xs : List X) (i : ℕ) (x : X) → i < length xs → x ≡ get_or xs i x → drop i xs ≡ x ∷ drop (i + 1) xs
drop-next xs i x inside is =
    drop-cons xs i x inside ∙ ap (λ y. y ∷ drop (suc i) xs) (sym is) ∙ ap (λ (k : ℕ). x ∷ drop k xs) (sym (add-one i))

pub drop-end : {X : Type 0} (xs : List X) (i : ℕ) → length xs ≤ i → drop i xs ≡ []
drop-end [] zero outside = refl
drop-end [] (suc i) outside = refl
drop-end (x ∷ xs) zero outside = absurd (omega arith)
drop-end (x ∷ xs) (suc i) outside = drop-end xs i (omega arith)

-- Numbers.

rise-above : (bound : ℕ) (xs : List ℕ) (j : ℕ) → RiseFrom bound xs → j < length xs → bound ≤ get_or xs j 0
rise-above bound [] j h inside = absurd (omega arith)
rise-above bound (x ∷ xs) zero h inside = h.0
rise-above bound (x ∷ xs) (suc j) h inside = omega (arith, rise-above (x + 1) xs j h.1 (omega arith), h.0)

pub rise-order : (bound : ℕ) (xs : List ℕ) → RiseFrom bound xs → (i j : ℕ) → i ≤ j → j < length xs → get_or xs i 0 ≤ get_or xs j 0
rise-order bound [] h i j le inside = absurd (omega arith)
rise-order bound (x ∷ xs) h zero zero le inside = omega arith
rise-order bound (x ∷ xs) h zero (suc j) le inside = omega (arith, rise-above (x + 1) xs j h.1 (omega arith))
rise-order bound (x ∷ xs) h (suc i) zero le inside = absurd (omega arith)
rise-order bound (x ∷ xs) h (suc i) (suc j) le inside = rise-order (x + 1) xs h.1 i j (omega arith) (omega arith)

has-at : (xs : List ℕ) (i x : ℕ) → i < length xs → get_or xs i 0 ≡ x → has xs x ≡ true
has-at [] i x inside is = absurd (omega arith)
has-at (y ∷ xs) zero x inside is = ap (λ (b : Bool). b || has xs x) (eq-eqb y x is)
has-at (y ∷ xs) (suc i) x inside is = ap (λ (b : Bool). (y == x) || b) (has-at xs i x (omega arith) is) ∙ or-true (y == x)

has-nowhere : (xs : List ℕ) (x : ℕ) → ((k : ℕ) → k < length xs → get_or xs k 0 ≡ x → ⊥) → has xs x ≡ false
has-nowhere [] x never = refl
has-nowhere (y ∷ xs) x never =
    ap (λ (b : Bool). b || has xs x) (ne_eqb y x (never 0 (omega arith)))
    ∙ has-nowhere xs x (λ k inside. never (suc k) (omega arith))

-- a binary search says whether a number is among those that rise
pub searched-has : (xs : List ℕ) (x : ℕ) (r : Result ℕ ℕ) → IsBinarySearchResult (λ y. nat_cmp y x) xs r → RiseFrom 0 xs → is_ok r ≡ has xs x
searched-has xs x (Ok i) found rise = let at = searched xs x (Ok i) found (rise-order 0 xs rise) in sym (has-at xs i x at.0 at.1)
searched-has xs x (Err i) found rise =
    let at = searched xs x (Err i) found (rise-order 0 xs rise) in
    sym (has-nowhere xs x (λ k inside is. elim (cases_lt k i) [
      | inl low ↦ (let less : get_or xs k 0 < x = at.1 k low in absurd (omega (arith, less, is)))
      | inr high ↦ (let more : x < get_or xs k 0 = at.2 k high inside in absurd (omega (arith, more, is)))
    ]))

-- each number is below the next
pub steps-rise : (bound : ℕ) (ns : List ℕ) → ((n : ℕ) (more : List ℕ) → ns ≡ n ∷ more → bound ≤ n) → IsStrictlyIncreasing ns → RiseFrom bound ns
steps-rise bound [] low h = tt
steps-rise bound (n ∷ []) low h = (low n [] refl, tt)
steps-rise bound (n ∷ m ∷ ns) low h = (
  low n (m ∷ ns) refl,
  steps-rise (n + 1) (m ∷ ns)
      (λ k more is. let same : m ≡ k = cc in let less : n < m = h 0 (omega arith) in omega arith)
      (λ k inside. subst (λ (j : ℕ). slice_index (m ∷ ns) k < slice_index (n ∷ m ∷ ns) j) {x = suc k + 1} {y = suc (k + 1)} (omega arith) (h (suc k) (omega arith))),
)

pub le-told : (a b : ℕ) → is_le (nat_cmp a b) ≡ true → a ≤ b
le-told a b h = grind (arith, nat_tests)

pub not-le-told : (a b : ℕ) → is_le (nat_cmp a b) ≡ false → b < a
not-le-told a b h = grind (arith, nat_tests)
