-- Lists whose keys rise. To the maps of std such a list is one of entries that hold nothing.
use Rattle.std.proofs.Common.{◌≡◌, ◌&&◌, ◌||◌, ℕ, Bool, true, false, cond, List, [], ◌∷◌, map, fold, refl, ap, sym, ◌∙◌, subst, Ordering}
use Rattle.std.proofs.Math.Dec.{T}
use Rattle.std.specs.Prelude.{Some, None, nat_eq}
use Rattle.std.specs.BTreeSet.{insert_key}
use Rattle.std.specs.Cmp.{IsTotalOrder, Equal-is}
use Rattle.std.specs.Cmp.Lexicographic.{nat_list_cmp_total, on_texts, pointwise, slice_cmp, texts_ties}
use Rattle.std.specs.FinMap.{IsAntisymmetric, entries, entries-from_sorted, find, from_sorted, get-from_sorted, is_sorted, nat_cmp-IsAntisymmetric, same_map, slice_cmp-IsAntisymmetric}
use Rattle.std.specs.FinMap.Entries.{below_all, by_order, is_sorted-put, put}
use Rattle.std.specs.List.{AllByRecursion, dedup, dedup_from, list_any}
use Rattle.std.specs.List.Sorted.{IsPermutation, IsSorted, IsStrictlySortedBy}
use Rattle.std.specs.Ordering.{eq_by_cmp, is_lt, match_ordering, nat_cmp}
use Rattle.std.specs.declared.cmp.Ordering.TheVariants.{Less, Equal, Greater}
use Rattle.std.proofs.lemmas.List.Kept.{IsStrictlySortedBy-dedup}
use Rattle.std.proofs.lemmas.List.Sorted.{list_any-IsPermutation}
use Rattle.hac_words.proofs.RunLemmas.{list_any-map}
use Rattle.hac_model.proofs.BoolLemmas.{or-turned}

or-false : (a : Bool) → a ≡ (a || false)
or-false true = refl
or-false false = refl

or_again : (a b : Bool) → (a || b) ≡ (a || (a || b))
or_again true b = refl
or_again false b = refl

or_between : (a b c : Bool) → ((a || b) || c) ≡ (b || (a || c))
or_between true true c = refl
or_between true false c = refl
or_between false b c = refl

both : (a b : Bool) → T a → T b → T (a && b)
both true b p q = q
both false b p q = p

first : (a b : Bool) → T (a && b) → T a
first true b h = tt
first false b h = h

second : (a b : Bool) → T (a && b) → T b
second true b h = h
second false b h = absurd h

less : (r : Ordering) → T (is_lt r) → r ≡ Less
less Less h = refl
less Equal h = absurd h
less Greater h = absurd h

module _ {K : Type 0} where
  -- keys as entries that hold nothing
  abbrev marked : List K → List (K × Unit {0})
  marked ks = map (λ k. (k, tt)) ks

  unmarked : (ks : List K) → map (λ e. e.0) (marked ks) ≡ ks
  unmarked [] = refl
  unmarked (k ∷ ks) = ap (λ l. k ∷ l) (unmarked ks)

  -- what passes a test once `dedup` is done, if the test sees no difference between what `dedup` holds for the same
  list_any-dedup_from : (E : K → K → Bool) (p : K → Bool) → ((x y : K) → E x y ≡ true → p x ≡ p y) → (k : K) (xs : List K) → list_any p (dedup_from E k xs) ≡ (p k || list_any p xs)
  list_any-dedup_from E p alike k [] = refl
  list_any-dedup_from E p alike k (x ∷ xs) =
      elim (E x k) as (λ b. E x k ≡ b → list_any p (cond b (dedup_from E k xs) (k ∷ dedup_from E x xs)) ≡ (p k || (p x || list_any p xs))) [
        | true ↦ λ same. list_any-dedup_from E p alike k xs ∙ or_again (p k) (list_any p xs) ∙ ap (λ b. p k || (b || list_any p xs)) (sym (alike x k same))
        | false ↦ λ other. ap (λ b. p k || b) (list_any-dedup_from E p alike x xs)
      ] refl

  list_any-dedup : (E : K → K → Bool) (p : K → Bool) → ((x y : K) → E x y ≡ true → p x ≡ p y) → (xs : List K) → list_any p (dedup E xs) ≡ list_any p xs
  list_any-dedup E p alike [] = refl
  list_any-dedup E p alike (x ∷ xs) = list_any-dedup_from E p alike x xs

module _ {K : Type 0} (R : K → K → Ordering) where
  -- ---- rising, as a map's entries do it

  marked_below : (x : K) (ks : List K) → AllByRecursion (λ y. R x y ≡ Less) ks → T (below_all R x (marked ks))
  marked_below x [] h = tt
  marked_below x (y ∷ ks) h = both (is_lt (R x y)) (below_all R x (marked ks)) (subst (λ r. T (is_lt r)) (sym h.0) tt) (marked_below x ks h.1)

  is_sorted-marked : (ks : List K) → IsStrictlySortedBy R ks → T (is_sorted R (marked ks))
  unfolding IsStrictlySortedBy
  is_sorted-marked [] h = tt
  is_sorted-marked (k ∷ ks) h = both (below_all R k (marked ks)) (is_sorted R (marked ks)) (marked_below k ks h.0) (is_sorted-marked ks h.1)

  below_marked : (x : K) (ks : List K) → T (below_all R x (marked ks)) → AllByRecursion (λ y. R x y ≡ Less) ks
  below_marked x [] h = tt
  below_marked x (y ∷ ks) h = (less (R x y) (first (is_lt (R x y)) (below_all R x (marked ks)) h), below_marked x ks (second (is_lt (R x y)) (below_all R x (marked ks)) h))

  IsStrictlySortedBy-from_marked : (ks : List K) → T (is_sorted R (marked ks)) → IsStrictlySortedBy R ks
  unfolding IsStrictlySortedBy
  IsStrictlySortedBy-from_marked [] h = tt
  IsStrictlySortedBy-from_marked (k ∷ ks) h = (below_marked k ks (first (below_all R k (marked ks)) (is_sorted R (marked ks)) h), IsStrictlySortedBy-from_marked ks (second (below_all R k (marked ks)) (is_sorted R (marked ks)) h))

  find-marked : (q : K) (ks : List K) → find R q (marked ks) ≡ cond (list_any (eq_by_cmp R q) ks) (Some tt) None
  find-marked q [] = refl
  find-marked q (k ∷ ks) =
      elim (eq_by_cmp R q k) as (λ b. cond b (Some tt) (find R q (marked ks)) ≡ cond (b || list_any (eq_by_cmp R q) ks) (Some tt) None) [ true ↦ refl | false ↦ find-marked q ks ]

  -- ---- keys that go to their places one after the other

  marked-insert_key : (ks : List K) (k : K) → marked (insert_key R ks k) ≡ put R k tt (marked ks)
  marked-insert_key [] k = refl
  marked-insert_key (x ∷ ks) k =
      elim (R k x) as (λ r. marked (match_ordering r (k ∷ x ∷ ks) (x ∷ ks) (x ∷ insert_key R ks k)) ≡ by_order r ((k, tt) ∷ (x, tt) ∷ marked ks) ((x, tt) ∷ marked ks) ((x, tt) ∷ put R k tt (marked ks))) [
        | Less ↦ refl
        | Equal ↦ refl
        | Greater ↦ ap (λ es. (x, tt) ∷ es) (marked-insert_key ks k)
      ]

  is_sorted-fold : IsTotalOrder R → (ks new : List K) → T (is_sorted R (marked ks)) → T (is_sorted R (marked (fold (insert_key R) ks new)))
  is_sorted-fold o ks [] h = h
  is_sorted-fold o ks (k ∷ new) h = is_sorted-fold o (insert_key R ks k) new (subst (λ es. T (is_sorted R es)) (sym (marked-insert_key ks k)) (is_sorted-put R o k tt (marked ks) h))

  -- keys that go to their places rise
  pub IsStrictlySortedBy-fold : IsTotalOrder R → (new : List K) → IsStrictlySortedBy R (fold (insert_key R) [] new)
  IsStrictlySortedBy-fold o new = IsStrictlySortedBy-from_marked (fold (insert_key R) [] new) (is_sorted-fold o [] new tt)

  list_any-insert_key : IsAntisymmetric R → (p : K → Bool) (ks : List K) (k : K) → list_any p (insert_key R ks k) ≡ (p k || list_any p ks)
  list_any-insert_key same p [] k = refl
  list_any-insert_key same p (x ∷ ks) k =
      elim (R k x) as (λ r. R k x ≡ r → list_any p (match_ordering r (k ∷ x ∷ ks) (x ∷ ks) (x ∷ insert_key R ks k)) ≡ (p k || (p x || list_any p ks))) [
        | Less ↦ λ below. refl
        | Equal ↦ λ tie. or_again (p x) (list_any p ks) ∙ ap (λ y. p y || (p x || list_any p ks)) (sym (same k x tie))
        | Greater ↦ λ above. ap (λ b. p x || b) (list_any-insert_key same p ks k) ∙ or-turned (p x) (p k) (list_any p ks)
      ] refl

  list_any-fold_from : IsAntisymmetric R → (p : K → Bool) (ks new : List K) → list_any p (fold (insert_key R) ks new) ≡ (list_any p ks || list_any p new)
  list_any-fold_from same p ks [] = or-false (list_any p ks)
  list_any-fold_from same p ks (k ∷ new) =
      list_any-fold_from same p (insert_key R ks k) new
      ∙ ap (λ b. b || list_any p new) (list_any-insert_key same p ks k)
      ∙ or_between (p k) (list_any p ks) (list_any p new)

  -- none is lost on the way to its place, and none comes in addition
  pub list_any-fold : IsAntisymmetric R → (p : K → Bool) (new : List K) → list_any p (fold (insert_key R) [] new) ≡ list_any p new
  list_any-fold same p new = list_any-fold_from same p [] new

  -- lists that rise and have the same keys are the same
  pub same_rising : IsTotalOrder R → IsAntisymmetric R → (xs ys : List K) → IsStrictlySortedBy R xs → IsStrictlySortedBy R ys → ((q : K) → list_any (eq_by_cmp R q) xs ≡ list_any (eq_by_cmp R q) ys) → xs ≡ ys
  same_rising o same xs ys rise climb keys =
      let up : T (is_sorted R (marked xs)) = is_sorted-marked xs rise in
      let upward : T (is_sorted R (marked ys)) = is_sorted-marked ys climb in
      let maps : from_sorted {R = R} (marked xs) ≡ from_sorted (marked ys) =
      same_map o same _ _ (λ q.
      get-from_sorted R (marked xs) q up ∙ find-marked q xs ∙ ap (λ b. cond b (Some tt) None) (keys q)
      ∙ sym (get-from_sorted R (marked ys) q upward ∙ find-marked q ys)) in
      let entries_same : marked xs ≡ marked ys = sym (entries-from_sorted R (marked xs) up) ∙ ap entries maps ∙ entries-from_sorted R (marked ys) upward in
      sym (unmarked xs) ∙ ap (map (λ e. e.0)) entries_same ∙ unmarked ys

-- ---- words

pub words_apart : IsAntisymmetric (slice_cmp nat_cmp)
words_apart = slice_cmp-IsAntisymmetric nat_cmp-IsAntisymmetric

pub word_tie : (x y : List ℕ) → eq_by_cmp (slice_cmp nat_cmp) x y ≡ true → x ≡ y
word_tie x y e = words_apart x y ((Equal-is (slice_cmp nat_cmp x y)).0 e)

module _ {X : Type 0} (f : X → List ℕ) where
  AllByRecursion-map : (P : List ℕ → Type 0) (xs : List X) → AllByRecursion (λ x. P (f x)) xs → AllByRecursion P (map f xs)
  AllByRecursion-map P [] h = tt
  AllByRecursion-map P (x ∷ xs) h = (h.0, AllByRecursion-map P xs h.1)

  IsStrictlySortedBy-map : (xs : List X) → IsStrictlySortedBy (λ x y. slice_cmp nat_cmp (f x) (f y)) xs → IsStrictlySortedBy (slice_cmp nat_cmp) (map f xs)
  unfolding IsStrictlySortedBy
  IsStrictlySortedBy-map [] h = tt
  IsStrictlySortedBy-map (x ∷ xs) h = (AllByRecursion-map (λ y. slice_cmp nat_cmp (f x) y ≡ Less) xs h.0, IsStrictlySortedBy-map xs h.1)

  -- words that were sorted and freed of repeats are those that went to their places
  pub settled : (xs ys : List X) → IsPermutation xs ys → IsSorted (λ x y. slice_cmp nat_cmp (f x) (f y)) ys → map f (dedup (λ x y. pointwise nat_eq (f x) (f y)) ys) ≡ fold (insert_key (slice_cmp nat_cmp)) [] (map f xs)
  settled xs ys moved up =
      same_rising (slice_cmp nat_cmp) nat_list_cmp_total words_apart _ _
      (IsStrictlySortedBy-map _ (IsStrictlySortedBy-dedup (on_texts f) (λ x y. texts_ties (f x) (f y)) ys up))
      (IsStrictlySortedBy-fold (slice_cmp nat_cmp) nat_list_cmp_total (map f xs))
      (λ q.
      list_any-map (eq_by_cmp (slice_cmp nat_cmp) q) f _
      ∙ list_any-dedup (λ x y. pointwise nat_eq (f x) (f y)) (λ x. eq_by_cmp (slice_cmp nat_cmp) q (f x)) (λ x y e. ap (eq_by_cmp (slice_cmp nat_cmp) q) (word_tie (f x) (f y) (sym (texts_ties (f x) (f y)) ∙ e))) ys
      ∙ sym (list_any-IsPermutation (λ x. eq_by_cmp (slice_cmp nat_cmp) q (f x)) xs ys moved)
      ∙ sym (list_any-map (eq_by_cmp (slice_cmp nat_cmp) q) f xs)
      ∙ sym (list_any-fold (slice_cmp nat_cmp) words_apart (eq_by_cmp (slice_cmp nat_cmp) q) (map f xs)))
