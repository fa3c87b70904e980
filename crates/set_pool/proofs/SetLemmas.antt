-- Facts on numbers that rise in two parts: those of a set's first tree, and those that came last.
use Rattle.std.proofs.Common.{◌≡◌, ℕ, ◌<◌, ◌≤◌, Bool, true, false, cond, leb, List, [], ◌∷◌, ◌++◌, refl, sym, ap, ◌∙◌, arith, Option, Some, None}
use Rattle.std.specs.Prelude.{is_some}
use Rattle.std.proofs.lemmas.Bool.{le-leb, leb-false}
use Rattle.set_pool.specs.Rising.{AllAbove, AllBelow, Rises, first_from}
use Rattle.set_pool.proofs.RisingLemmas.{all-weaker, apart}

-- nothing is below zero
least-first : (y : ℕ) (m : List ℕ) → first_from 0 (y ∷ m) ≡ Some y
least-first y m = ap (λ (b : Bool). cond b (Some y) (first_from 0 m)) (le-leb 0 y (omega arith))

first-is : (y first : ℕ) (m : List ℕ) → first_from 0 (y ∷ m) ≡ Some first → y ≡ first
first-is y first m is = let both : Some y ≡ Some first = sym (least-first y m) ∙ is in cc

-- what isn't below the first of the second part is above the first part
pub below-first : (x first : ℕ) (l m : List ℕ) → Rises (l ++ m) → first_from 0 m ≡ Some first → first ≤ x → AllBelow x l
below-first x first l [] rises is least = absurd cc
below-first x first l (y ∷ m) rises is least =
    let same : y ≡ first = first-is y first m is in
    all-weaker (λ z. AllAbove z (y ∷ m)) (λ z. z < x) (λ z above. let less : z < y = above.0 in omega (arith, same, less, least)) l (apart l (y ∷ m) rises)

-- what is below the first is below all
pub above-first : (x first : ℕ) (m : List ℕ) → Rises m → first_from 0 m ≡ Some first → x < first → AllAbove x m
above-first x first [] rises is less = tt
above-first x first (y ∷ m) rises is less =
    let same : y ≡ first = first-is y first m is in
    (omega (arith, same, less), all-weaker (λ z. y < z) (λ z. x < z) (λ z above. omega (arith, same, less, above)) m rises.0)

-- above nothing, and below nothing
pub above-none : (x : ℕ) (m : List ℕ) → first_from 0 m ≡ None → AllAbove x m
above-none x [] is = tt
above-none x (y ∷ m) is = let never : Some y ≡ None = sym (least-first y m) ∙ is in absurd cc

-- where none isn't below a value, all are below it
pub below-none : (x : ℕ) (l : List ℕ) → first_from x l ≡ None → AllBelow x l
below-none x [] is = tt
below-none x (y ∷ l) is =
    elim (leb x y) as (λ b. leb x y ≡ b → cond b (Some y) (first_from x l) ≡ None → AllBelow x (y ∷ l)) [
      | true ↦ (λ _ is. absurd cc)
      | false ↦ (λ less is. (leb-false x y less, below-none x l is))
    ] refl is

pub none-is : (o : Option ℕ) → is_some o ≡ false → o ≡ None
none-is None is = refl
none-is (Some x) is = absurd cc
