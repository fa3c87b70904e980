-- Facts on the numbers of a row.
use Rattle.std.proofs.Common.{◌≡◌, ℕ, ◌+◌, ◌-◌, ◌<◌, ◌≤◌, Bool, true, false, eqb, ltb, leb, List, [], ◌∷◌, ◌++◌, length, take, get_or, refl, sym, ap, ◌∙◌, arith, Some, None, one-add}
use Rattle.std.specs.List.{insert, list_any, prefix_len, remove, slice_get}
use Rattle.std.proofs.lemmas.Bool.{ltb-true, ltb-false, eqb-false, eq-eqb, le-leb, ne_eqb, or_left, or_parts, or_right}
use Rattle.std.proofs.lemmas.List.{take_all, take_more}
use Rattle.std.proofs.lemmas.List.Folds.{list_any-append}
use Rattle.std.proofs.lemmas.Option.{slice_get-get_or, slice_get_within}
use Rattle.set_pool.specs.Rising.{AllAbove, AllBelow, Rises, inserted, is_among, removed}
use Rattle.set_pool.proofs.RisingLemmas.{all-weaker, all-join, apart, inserted-above, inserted-past, removed-above}

-- a list ends with the value at its last place
pub ends : (f : ℕ) (rest : List ℕ) (v : ℕ) → Some v ≡ slice_get rest (length rest - 1) → (front : List ℕ) × (f ∷ rest ≡ front ++ v ∷ [])
ends f rest v e =
    let n = length rest - 1 in
    let w : n < length rest = slice_get_within rest n v (sym e) in
    let same : get_or rest n v ≡ v = let at = slice_get-get_or rest n v w in cc in
    (f ∷ take n rest, ap (λ z. f ∷ z) (sym (take_all (n + 1) rest (omega arith)) ∙ take_more rest n v w ∙ ap (λ z. take n rest ++ z ∷ []) same))

-- where the last place is empty, the list is
pub nothing_last : (rest : List ℕ) → None ≡ slice_get rest (length rest - 1) → rest ≡ []
nothing_last [] e = refl
nothing_last (y ∷ t) e = let w : length (y ∷ t) - 1 < length (y ∷ t) = omega arith in let at = slice_get-get_or (y ∷ t) (length (y ∷ t) - 1) 0 w in cc

-- past the last number, all are below; else one is not below
pub below-last : (x v : ℕ) (xs front : List ℕ) → xs ≡ front ++ v ∷ [] → Rises xs → v < x → AllBelow x xs
below-last x v xs front e s p =
    let u : Rises (front ++ v ∷ []) = rw (← e) s in
    rw e (all-join (λ y. y < x) front (v ∷ []) (all-weaker (λ y. AllAbove y (v ∷ [])) (λ y. y < x) (λ y a. let q : y < v = a.0 in omega arith) front (apart front (v ∷ []) u)) (p, tt))

pub reaches-last : (x v : ℕ) (xs front : List ℕ) → xs ≡ front ++ v ∷ [] → x ≤ v → list_any (λ y. leb x y) xs ≡ true
reaches-last x v xs front e p =
    rw (e, list_any-append (λ y. leb x y) front (v ∷ [])) (or_right _ _ (or_left _ false (le-leb x v p)))

-- the numbers that are not the value and not above it are below it
pub placed : (x : ℕ) (xs : List ℕ) → Rises xs → is_among x xs ≡ false → insert xs (prefix_len (λ y. ltb y x) xs) x ≡ inserted x xs
placed x [] s e = refl
placed x (y ∷ t) s e =
    let parts = or_parts (eqb x y) (is_among x t) e in
    placed_cases (ltb y x) refl parts.0 (placed x t s.1 parts.1)
  where
    placed_cases : (b : Bool) → ltb y x ≡ b → eqb x y ≡ false → insert t (prefix_len (λ z. ltb z x) t) x ≡ inserted x t → insert (y ∷ t) (prefix_len (λ z. ltb z x) (y ∷ t)) x ≡ inserted x (y ∷ t)
    placed_cases true below other ih =
        let lt : y < x = ltb-true y x below in
        rw (below, one-add) (ap (λ z. y ∷ z) ih) ∙ sym (inserted-past x (y ∷ []) t (lt, tt))
    placed_cases false above other ih =
        let le : x ≤ y = ltb-false y x above in
        let lt : x < y = let ne = eqb-false x y other in omega arith in
        let none : prefix_len (λ z. ltb z x) (y ∷ t) ≡ 0 = rw above refl in
        ap (λ n. insert (y ∷ t) n x) none ∙ sym (inserted-above x (y ∷ t) (lt, all-weaker (λ z. y < z) (λ z. x < z) (λ z q. omega arith) t s.0))

-- a row that isn't the value alone has more behind the value
pub more_behind : (f x : ℕ) (rest : List ℕ) → (f ∷ rest ≡ x ∷ [] → ⊥) → f ≡ x → 0 < length rest
more_behind f x [] stays e = absurd (stays (ap (λ z. z ∷ []) e))
more_behind f x (y ∷ t) stays e = omega arith

-- the first two numbers close up once the first is gone
pub close_up : (rest : List ℕ) (v : ℕ) → v ≡ get_or rest 0 v → 0 < length rest → v ∷ remove rest 0 ≡ rest
close_up [] v e p = absurd (omega arith)
close_up (y ∷ t) v e p = ap (λ z. z ∷ t) e

pub removed-first : (f x : ℕ) (rest : List ℕ) → Rises (f ∷ rest) → f ≡ x → removed x (f ∷ rest) ≡ rest
removed-first f x rest s e = let same = eq-eqb x f (sym e) in rw same (removed-above x rest (all-weaker (λ z. f < z) (λ z. x < z) (λ z q. omega arith) rest s.0))

pub removed-later : (f x : ℕ) (rest : List ℕ) → (f ≡ x → ⊥) → removed x (f ∷ rest) ≡ f ∷ removed x rest
removed-later f x rest ne = let other = ne_eqb x f (λ e. ne (sym e)) in rw other refl
