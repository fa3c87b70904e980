-- Tests of lists, by what is left of them.
use Rattle.std.proofs.Common.{◌≡◌, ℕ, ◌+◌, ◌<◌, ◌≤◌, Bool, true, false, List, ◌∷◌, drop, length, get_or, ap, ◌∙◌, arith}
use Rattle.std.specs.Prelude.{◌&&◌, if◌then◌else◌, filter}
use Rattle.std.specs.List.{list_all}
use Rattle.std.proofs.lemmas.List.{drop_all}
use Rattle.hac_model.proofs.SortedLemmas.{drop-next}

module _ {X : Type 0} (p : X → Bool) (xs : List X) (i : ℕ) where
  -- all pass where all that are left do
  abbrev pub AllSoFar : Type 0
  AllSoFar = list_all p xs ≡ list_all p (drop i xs)

  -- so many pass the test so far, and the others are left to be counted
  abbrev pub CountsSoFar : ℕ → Type 0
  CountsSoFar count = count + length (filter p (drop i xs)) ≡ length (filter p xs)

  pub all-done : length xs ≤ i → AllSoFar → list_all p xs ≡ true
  all-done past so_far = so_far ∙ ap (list_all p) (drop_all i xs past)

  pub counts-done : (count : ℕ) → length xs ≤ i → CountsSoFar count → count ≡ length (filter p xs)
  counts-done count past so_far = let none = ap (λ (ys : List X). length (filter p ys)) (drop_all i xs past) in omega (arith, so_far, none)

  module _ (x : X) (inside : i < length xs) (is : x ≡ get_or xs i x) where
    pub all-more : p x ≡ true → AllSoFar → list_all p xs ≡ list_all p (drop (i + 1) xs)
    all-more passes so_far = so_far ∙ ap (list_all p) (drop-next xs i x inside is) ∙ ap (λ (b : Bool). b && list_all p (drop (i + 1) xs)) passes

    pub all-fails : p x ≡ false → AllSoFar → list_all p xs ≡ false
    all-fails fails so_far = so_far ∙ ap (list_all p) (drop-next xs i x inside is) ∙ ap (λ (b : Bool). b && list_all p (drop (i + 1) xs)) fails

    pub counts-more : (count : ℕ) → p x ≡ true → CountsSoFar count → (count + 1) + length (filter p (drop (i + 1) xs)) ≡ length (filter p xs)
    counts-more count passes so_far =
        let one : length (filter p (drop i xs)) ≡ length (x ∷ filter p (drop (i + 1) xs)) = ap (λ (ys : List X). length (filter p ys)) (drop-next xs i x inside is) ∙ ap (λ (b : Bool). length (if b then x ∷ filter p (drop (i + 1) xs) else filter p (drop (i + 1) xs))) passes in
        omega (arith, so_far, one)

    pub counts-less : (count : ℕ) → p x ≡ false → CountsSoFar count → count + length (filter p (drop (i + 1) xs)) ≡ length (filter p xs)
    counts-less count fails so_far =
        let none : length (filter p (drop i xs)) ≡ length (filter p (drop (i + 1) xs)) = ap (λ (ys : List X). length (filter p ys)) (drop-next xs i x inside is) ∙ ap (λ (b : Bool). length (if b then x ∷ filter p (drop (i + 1) xs) else filter p (drop (i + 1) xs))) fails in
        omega (arith, so_far, none)
