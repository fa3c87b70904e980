-- Names that rise, by neighbours, and a name among them.
use Rattle.std.proofs.Common.{◌≡◌, ℕ, zero, suc, ◌+◌, ◌<◌, ◌≤◌, Bool, true, false, List, [], ◌∷◌, length, get_or, subst, refl, ap, sym, ◌∙◌, arith, inl, inr}
use Rattle.std.specs.Prelude.{◌||◌, Result, Ok, Err, is_ok}
use Rattle.std.specs.Cmp.Lexicographic.{nat_list_cmp_total, nat_list_eq_equiv, slice_cmp, texts_ties}
use Rattle.std.specs.List.{list_all}
use Rattle.std.specs.List.Sorted.{IsBinarySearchResult, IsPartitionPoint, IsSortedBy}
use Rattle.std.specs.Ordering.{is_eq, is_lt, nat_cmp, ordering_reverse}
use Rattle.std.specs.Str.{bytes_eq}
use Rattle.std.specs.declared.cmp.Ordering.{Ordering}
use Rattle.std.specs.declared.cmp.Ordering.TheVariants.{Less, Equal, Greater}
use Rattle.std.proofs.lemmas.Bool.{and_parts, cases_lt}
use Rattle.std.proofs.lemmas.List.Sorted.{searchable_from_sorted}
use Rattle.std.proofs.lemmas.Map.Text.{is_eq-slice_cmp}
use Rattle.std.proofs.lemmas.Slice.Eq.{bytes_eq-Decides}
use Rattle.hac_model.specs.Tree.Listing.{is_before}
use Rattle.hac_model.specs.Tree.Mounting.{do_names_rise, is_among}
use Rattle.hac_model.proofs.BoolLemmas.{or-true}

pub less-from : (o : Ordering) → is_lt o ≡ true → o ≡ Less
less-from Less h = refl
less-from other h = absurd cc

-- each name comes before the one behind it, up to one
abbrev pub IsChainTo : List (List ℕ) → ℕ → Type 0
IsChainTo names end = (k : ℕ) (d : List ℕ) → suc k < end → is_before (get_or names k d) (get_or names (suc k) d) ≡ true

abbrev pub IsChain : List (List ℕ) → Type 0
IsChain names = IsChainTo names (length names)

all-at : {X : Type 0} (p : X → Bool) (xs : List X) (k : ℕ) (d : X) → list_all p xs ≡ true → k < length xs → p (get_or xs k d) ≡ true
all-at p [] k d h inside = absurd (omega arith)
all-at p (x ∷ xs) zero d h inside = (and_parts (p x) (list_all p xs) h).0
all-at p (x ∷ xs) (suc k) d h inside = all-at p xs k d (and_parts (p x) (list_all p xs) h).1 (omega arith)

pub chain-rises : (names : List (List ℕ)) → do_names_rise names ≡ true → IsChain names
chain-rises [] h k d inside = absurd (omega arith)
chain-rises (x ∷ xs) h zero d inside = all-at (is_before x) xs 0 d (and_parts (list_all (is_before x) xs) (do_names_rise xs) h).0 (omega arith)
chain-rises (x ∷ xs) h (suc k) d inside = chain-rises xs (and_parts (list_all (is_before x) xs) (do_names_rise xs) h).1 k d (omega arith)

among-at : (names : List (List ℕ)) (name : List ℕ) (i : ℕ) (d : List ℕ) → i < length names → bytes_eq name (get_or names i d) ≡ true → is_among names name ≡ true
among-at [] name i d inside same = absurd (omega arith)
among-at (x ∷ xs) name zero d inside same = ap (λ (b : Bool). b || is_among xs name) same
among-at (x ∷ xs) name (suc i) d inside same = ap (λ (b : Bool). bytes_eq name x || b) (among-at xs name i d (omega arith) same) ∙ or-true (bytes_eq name x)

among-never : (names : List (List ℕ)) (name : List ℕ) → ((k : ℕ) (d : List ℕ) → k < length names → bytes_eq name (get_or names k d) ≡ false) → is_among names name ≡ false
among-never [] name never = refl
among-never (x ∷ xs) name never =
    ap (λ (b : Bool). b || is_among xs name) (never 0 [] (omega arith))
    ∙ among-never xs name (λ k d inside. never (suc k) d (omega arith))

-- two lists compared, and whether they are one
even : (x y : List ℕ) (o : Ordering) → slice_cmp nat_cmp y x ≡ o → bytes_eq x y ≡ is_eq o
even x y o is = nat_list_eq_equiv.symm x y ∙ sym (is_eq-slice_cmp y x) ∙ ap is_eq is

sorted : (names : List (List ℕ)) → do_names_rise names ≡ true → IsSortedBy (λ x y. is_lt (slice_cmp nat_cmp x y)) names
sorted names rise k d low inside =
    let next : suc k ≡ k + 1 = omega arith in
    subst (λ (j : ℕ). is_lt (slice_cmp nat_cmp (get_or names j d) (get_or names k d)) ≡ false) next (turned (get_or names k d) (get_or names (suc k) d) (chain-rises names rise k d (omega arith)))
  where
    turned : (x y : List ℕ) → is_before x y ≡ true → is_lt (slice_cmp nat_cmp y x) ≡ false
    turned x y h = ap is_lt (nat_list_cmp_total.antisymm y x ∙ ap ordering_reverse (less-from (slice_cmp nat_cmp x y) h))

get-past : (names : List (List ℕ)) (i : ℕ) (d : List ℕ) → length names ≤ i → get_or names i d ≡ d
get-past [] i d past = refl
get-past (x ∷ xs) zero d past = absurd (omega arith)
get-past (x ∷ xs) (suc i) d past = get-past xs i d (omega arith)

longer : (x : List ℕ) → bytes_eq x (0 ∷ x) ≡ false
longer [] = refl
longer (b ∷ bs) = elim (bytes_eq (b ∷ bs) (0 ∷ b ∷ bs)) as (λ t. bytes_eq (b ∷ bs) (0 ∷ b ∷ bs) ≡ t → t ≡ false) [
  | true ↦ (λ same. let is = ap (λ (l : List ℕ). length l) ((bytes_eq-Decides (b ∷ bs) (0 ∷ b ∷ bs)).0 same) in absurd (omega (arith, is)))
  | false ↦ (λ _. refl)
] refl

-- a binary search says whether a name is among those that rise
pub searched-among : (names : List (List ℕ)) (name : List ℕ) (r : Result ℕ ℕ) → IsBinarySearchResult (λ y. slice_cmp nat_cmp y name) names r → do_names_rise names ≡ true → is_ok r ≡ is_among names name
searched-among names name (Ok i) found rise = sym (elim (cases_lt i (length names)) [
  | inl inside ↦ among-at names name i [] inside (even name (get_or names i []) Equal (found []))
  | inr past ↦
      (let never : true ≡ false = sym (even name (0 ∷ name) Equal (sym (ap (λ (y : List ℕ). slice_cmp nat_cmp y name) (get-past names i (0 ∷ name) past)) ∙ found (0 ∷ name))) ∙ longer name in
      absurd cc)
])
searched-among names name (Err i) found rise =
    let point : IsPartitionPoint (λ y. slice_cmp nat_cmp y name ≡ Less) (λ y. slice_cmp nat_cmp y name ≡ Greater) names i = found (searchable_from_sorted nat_list_cmp_total (λ x. x) names name (sorted names rise)) in
    sym (among-never names name (λ k d inside. elim (cases_lt k i) [
      | inl low ↦ even name (get_or names k d) Less (point.0 k d (omega arith) low)
      | inr high ↦ even name (get_or names k d) Greater (point.1 k d high inside)
    ]))

pub same-turned : (x y : List ℕ) → bytes_eq x y ≡ bytes_eq y x
same-turned x y = nat_list_eq_equiv.symm x y

pub before-trans : (x y z : List ℕ) → is_before x y ≡ true → is_before y z ≡ true → is_before x z ≡ true
before-trans x y z h k = ap is_lt (nat_list_cmp_total.trans x y z (less-from (slice_cmp nat_cmp x y) h) (less-from (slice_cmp nat_cmp y z) k))

pub before-differs : (x y : List ℕ) → is_before x y ≡ true → bytes_eq x y ≡ false
before-differs x y h = texts_ties x y ∙ ap is_eq (less-from (slice_cmp nat_cmp x y) h)

-- of two names that differ one comes before the other
pub before-other : (x y : List ℕ) → is_before x y ≡ false → bytes_eq x y ≡ false → is_before y x ≡ true
before-other x y h k =
    ap is_lt (nat_list_cmp_total.antisymm y x)
    ∙ turned (slice_cmp nat_cmp x y) h (sym (texts_ties x y) ∙ k)
  where
    turned : (o : Ordering) → is_lt o ≡ false → is_eq o ≡ false → is_lt (ordering_reverse o) ≡ true
    turned Greater h k = refl
    turned other h k = absurd cc
