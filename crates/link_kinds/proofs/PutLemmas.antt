-- Marks of a state and items of a list: put in, and taken out.
use Rattle.std.proofs.Common.{◌≡◌, ℕ, ◌<◌, cond, not, List, [], ◌∷◌, refl, ap, sym, ◌∙◌, subst, arith, inl, inr}
use Rattle.std.specs.Cmp.{nat_cmp_is}
use Rattle.std.specs.List.Sorted.{IsStrictlyIncreasing, IsStrictlySortedBy}
use Rattle.std.specs.Ordering.{nat_cmp}
use Rattle.std.specs.declared.cmp.Ordering.TheVariants.{Less, Equal, Greater}
use Rattle.std.proofs.lemmas.Bool.{cases_order, eq-eqb, le-ltb, lt-ltb, ne_eqb}
use Rattle.std.proofs.lemmas.Map.Keys.{sorted_from_strictly_increasing}
use Rattle.hac_model.specs.Tree.Events.{put_in, without}
use Rattle.set_pool.specs.Rising.{AllAbove, Rises, inserted, removed}
use Rattle.set_pool.proofs.RisingLemmas.{all-weaker, inserted-before, inserted-past, inserted-present}
use Rattle.hac_model.proofs.AmongLemmas.{eqb-turned}

nat-less : (x y : ℕ) → nat_cmp x y ≡ Less → x < y
nat-less x y e =
    elim (cases_order x y) [
      | inl same ↦ absurd (let not_it = nat_cmp_is x y Equal same in cc)
      | inr (inl less) ↦ less
      | inr (inr more) ↦ absurd (let not_it = nat_cmp_is x y Greater more in cc)
    ]

pub sorted-rise : (xs : List ℕ) → IsStrictlySortedBy nat_cmp xs → Rises xs
unfolding IsStrictlySortedBy
sorted-rise [] h = tt
sorted-rise (x ∷ xs) h = (all-weaker (λ y. nat_cmp x y ≡ Less) (λ y. x < y) (λ y less. nat-less x y less) xs h.0, sorted-rise xs h.1)

pub removed-without : (item : ℕ) (xs : List ℕ) → removed item xs ≡ without item xs
removed-without item [] = refl
removed-without item (x ∷ xs) = λ i. cond (not (eqb-turned item x i)) (x ∷ removed-without item xs i) (removed-without item xs i)

-- nothing is taken out of what is above
without-above : (item : ℕ) (xs : List ℕ) → AllAbove item xs → without item xs ≡ xs
without-above item [] above = refl
without-above item (x ∷ xs) above =
    let other = ne_eqb x item (let less : item < x = above.0 in λ same. omega arith) in
    rw other (ap (λ (rest : List ℕ). x ∷ rest) (without-above item xs above.1))

put-above : (item : ℕ) (xs : List ℕ) → AllAbove item xs → put_in item xs ≡ item ∷ xs
put-above item [] above = refl
put-above item (x ∷ xs) above = let less = lt-ltb item x above.0 in rw less refl

above-all : (low item : ℕ) (xs : List ℕ) → low < item → AllAbove item xs → AllAbove low xs
above-all low item [] less above = tt
above-all low item (x ∷ xs) less above = (let more : item < x = above.0 in omega arith, above-all low item xs less above.1)

put-rising : (item : ℕ) (xs : List ℕ) → Rises xs → inserted item xs ≡ put_in item (without item xs)
put-rising item [] rises = refl
put-rising item (x ∷ xs) rises =
    elim (cases_order item x) [
      | inl same ↦
          let here = eq-eqb x item (sym same) in
          let there = eq-eqb item x same in
          let above : AllAbove item xs = subst (λ k. AllAbove k xs) (sym same) rises.0 in
          inserted-present item (x ∷ xs) rises (rw there refl)
          ∙ ap (λ k. k ∷ xs) (sym same)
          ∙ sym (put-above item xs above)
          ∙ ap (put_in item) (sym (without-above item xs above))
          ∙ (rw here refl)
      | inr (inl less) ↦
          let all : AllAbove item (x ∷ xs) = (less, above-all item x xs less rises.0) in
          inserted-before item [] (x ∷ xs) all ∙ sym (put-above item (x ∷ xs) all) ∙ ap (put_in item) (sym (without-above item (x ∷ xs) all))
      | inr (inr more) ↦
          let other = ne_eqb x item (λ same. omega arith) in
          let not_less = le-ltb item x (omega arith) in
          inserted-past item (x ∷ []) xs (more, tt)
          ∙ ap (λ (rest : List ℕ). x ∷ rest) (put-rising item xs rises.1)
          ∙ (rw (other, not_less) refl)
    ]

pub inserted-put : (item : ℕ) (xs : List ℕ) → IsStrictlyIncreasing xs → inserted item xs ≡ put_in item (without item xs)
inserted-put item xs rises = put-rising item xs (sorted-rise xs (sorted_from_strictly_increasing xs rises))
