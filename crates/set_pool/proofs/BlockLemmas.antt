-- Facts on the numbers of a block: l on its left, a row of f and the rest, and m on its right.
use Rattle.std.proofs.Common.{◌≡◌, ℕ, ◌<◌, ◌≤◌, Bool, true, false, cond, ◌||◌, eqb, leb, List, [], ◌∷◌, ◌++◌, refl, sym, ap, ◌∙◌, arith, inl, inr, Option, Some, subst, append_assoc}
use Rattle.std.specs.List.{find, list_any}
use Rattle.std.specs.Option.{option_or}
use Rattle.std.proofs.lemmas.Bool.{le-leb, eq-eqb, cases_order, both_ways, or_left, or_right}
use Rattle.std.proofs.lemmas.List.Folds.{list_any-append}
use Rattle.set_pool.proofs.RowLemmas.{below-last}
use Rattle.set_pool.specs.Rising.{AllAbove, AllBelow, Rises, first_from, inserted, is_among, removed}
use Rattle.set_pool.proofs.RisingLemmas.{above-before, above-within, below-after, below-within, first_from-parts, first_from-past, inserted-amid, inserted-before, inserted-past, inserted-above, none-from, all-right, all-weaker, apart, rises-left, rises-right, is_among-above, is_among-amid, is_among-below, is_among-past, removed-amid, removed-before, removed-past}

-- nothing is below or above anything
below-nothing : (x : ℕ) (l : List ℕ) → l ≡ [] → AllBelow x l
below-nothing x [] e = tt
below-nothing x (y ∷ l) e = cc

above-nothing : (x : ℕ) (m : List ℕ) → m ≡ [] → AllAbove x m
above-nothing x [] e = tt
above-nothing x (y ∷ m) e = cc

-- a block is never empty
pub never-empty : (l : List ℕ) (f : ℕ) (xs : List ℕ) → l ++ f ∷ xs ≡ [] → ⊥
never-empty [] f xs e = cc
never-empty (y ∷ l) f xs e = cc

-- what a block has, in the part where the value lies
module _ (x f : ℕ) (l rest m : List ℕ) (s : Rises (l ++ ((f ∷ rest) ++ m))) where
  pub is_among-left : AllAbove x (f ∷ rest) → is_among x (l ++ ((f ∷ rest) ++ m)) ≡ is_among x l
  is_among-left a = is_among-amid x [] l ((f ∷ rest) ++ m) tt (above-before x f l rest m s a.0)

  pub is_among-within : (list_any (λ y. leb y x) (f ∷ rest) ≡ true) × (list_any (λ y. leb x y) (f ∷ rest) ≡ true) → is_among x (l ++ ((f ∷ rest) ++ m)) ≡ is_among x (f ∷ rest)
  is_among-within w = is_among-amid x l (f ∷ rest) m (below-within x l (f ∷ rest) m s w.0) (above-within x l (f ∷ rest) m s w.1)

  pub is_among-right : AllBelow x (f ∷ rest) → is_among x (l ++ ((f ∷ rest) ++ m)) ≡ is_among x m
  is_among-right a = is_among-past x l ((f ∷ rest) ++ m) (below-after x f l rest m s a.0) ∙ is_among-past x (f ∷ rest) m a

  pub first_from-left : AllAbove x (f ∷ rest) → first_from x (l ++ ((f ∷ rest) ++ m)) ≡ option_or (first_from x l) (Some f)
  first_from-left a =
      let le : x ≤ f = let lt : x < f = a.0 in omega arith in
      let here = le-leb x f le in
      first_from-parts x l ((f ∷ rest) ++ m) ∙ ap (option_or (first_from x l)) (rw here refl)

  pub first_from-within : (list_any (λ y. leb y x) (f ∷ rest) ≡ true) × (list_any (λ y. leb x y) (f ∷ rest) ≡ true) → first_from x (l ++ ((f ∷ rest) ++ m)) ≡ first_from x (f ∷ rest)
  first_from-within w =
      first_from-past x l ((f ∷ rest) ++ m) (below-within x l (f ∷ rest) m s w.0) ∙ first_from-parts x (f ∷ rest) m ∙ found (λ y. leb x y) (f ∷ rest) (first_from x m) w.1
    where
      found-cases : (test : ℕ → Bool) (b : Bool) (y : ℕ) (ys : List ℕ) (o : Option ℕ) → (list_any test ys ≡ true → option_or (find test ys) o ≡ find test ys) → (b || list_any test ys) ≡ true → option_or (cond b (Some y) (find test ys)) o ≡ cond b (Some y) (find test ys)
      found-cases test true y ys o ih e = refl
      found-cases test false y ys o ih e = ih e

      found : (test : ℕ → Bool) (ys : List ℕ) (o : Option ℕ) → list_any test ys ≡ true → option_or (find test ys) o ≡ find test ys
      found test [] o e = cc
      found test (y ∷ ys) o e = found-cases test (test y) y ys o (found test ys o) e

  pub first_from-right : AllBelow x (f ∷ rest) → first_from x (l ++ ((f ∷ rest) ++ m)) ≡ first_from x m
  first_from-right a = first_from-past x l ((f ∷ rest) ++ m) (below-after x f l rest m s a.0) ∙ first_from-past x (f ∷ rest) m a

  pub inserted-left : AllAbove x (f ∷ rest) → inserted x (l ++ ((f ∷ rest) ++ m)) ≡ inserted x l ++ ((f ∷ rest) ++ m)
  inserted-left a = inserted-before x l ((f ∷ rest) ++ m) (above-before x f l rest m s a.0)

  pub inserted-within : (list_any (λ y. leb y x) (f ∷ rest) ≡ true) × (list_any (λ y. leb x y) (f ∷ rest) ≡ true) → inserted x (l ++ ((f ∷ rest) ++ m)) ≡ l ++ (inserted x (f ∷ rest) ++ m)
  inserted-within w = inserted-amid x l (f ∷ rest) m (below-within x l (f ∷ rest) m s w.0) (above-within x l (f ∷ rest) m s w.1)

  pub inserted-right : AllBelow x (f ∷ rest) → inserted x (l ++ ((f ∷ rest) ++ m)) ≡ l ++ ((f ∷ rest) ++ inserted x m)
  inserted-right a = inserted-past x l ((f ∷ rest) ++ m) (below-after x f l rest m s a.0) ∙ ap (λ z. l ++ z) (inserted-past x (f ∷ rest) m a)

  pub removed-left : AllAbove x (f ∷ rest) → removed x (l ++ ((f ∷ rest) ++ m)) ≡ removed x l ++ ((f ∷ rest) ++ m)
  removed-left a = removed-before x l ((f ∷ rest) ++ m) (above-before x f l rest m s a.0)

  pub removed-within : (list_any (λ y. leb y x) (f ∷ rest) ≡ true) × (list_any (λ y. leb x y) (f ∷ rest) ≡ true) → removed x (l ++ ((f ∷ rest) ++ m)) ≡ l ++ (removed x (f ∷ rest) ++ m)
  removed-within w = removed-amid x l (f ∷ rest) m (below-within x l (f ∷ rest) m s w.0) (above-within x l (f ∷ rest) m s w.1)

  pub removed-right : AllBelow x (f ∷ rest) → removed x (l ++ ((f ∷ rest) ++ m)) ≡ l ++ ((f ∷ rest) ++ removed x m)
  removed-right a = removed-past x l ((f ∷ rest) ++ m) (below-after x f l rest m s a.0) ∙ ap (λ z. l ++ z) (removed-past x (f ∷ rest) m a)

  -- a value before the row, where nothing is on the left, and after it, where nothing is on the right
  pub inserted-first : AllAbove x (f ∷ rest) → l ≡ [] → inserted x (l ++ ((f ∷ rest) ++ m)) ≡ l ++ (inserted x (f ∷ rest) ++ m)
  inserted-first a none = inserted-amid x l (f ∷ rest) m (below-nothing x l none) (all-right (λ z. x < z) (f ∷ rest) m (above-before x f l rest m s a.0))

  pub absent-first : AllAbove x (f ∷ rest) → l ≡ [] → is_among x (l ++ ((f ∷ rest) ++ m)) ≡ false
  absent-first a none = is_among-left a ∙ is_among-below x l (below-nothing x l none)

  pub inserted-last : AllBelow x (f ∷ rest) → m ≡ [] → inserted x (l ++ ((f ∷ rest) ++ m)) ≡ l ++ (inserted x (f ∷ rest) ++ m)
  inserted-last a none = inserted-amid x l (f ∷ rest) m (below-after x f l rest m s a.0) (above-nothing x m none)

  pub absent-last : AllBelow x (f ∷ rest) → m ≡ [] → is_among x (l ++ ((f ∷ rest) ++ m)) ≡ false
  absent-last a none = is_among-right a ∙ is_among-above x m (above-nothing x m none)

-- a row that gives its greatest number to the right
module _ (x : ℕ) (l r m front : List ℕ) (g : ℕ) (s : Rises (l ++ (r ++ m))) (e : r ≡ front ++ g ∷ []) where
  -- the greatest number is below all on the right
  pub greatest-below : AllAbove g m
  greatest-below =
      let u : Rises ((front ++ g ∷ []) ++ m) = rw (← e) (rises-right l (r ++ m) s) in
      let v : Rises (front ++ (g ∷ m)) = rw (← append_assoc front (g ∷ []) m) u in
      (rises-right front (g ∷ m) v).0

  pub below-greatest : is_among x r ≡ false → list_any (λ y. leb x y) r ≡ true → x < g
  below-greatest absent reaches =
      elim (cases_order x g) [
        | inl same ↦ absurd (both_ways _ absent (rw (e, list_any-append (λ y. eqb x y) front (g ∷ [])) (or_right _ _ (or_left _ false (eq-eqb x g same)))))
        | inr (inl less) ↦ less
        | inr (inr more) ↦ absurd (both_ways _ (none-from x r (below-last x g r front e (rises-left r m (rises-right l (r ++ m) s)) more)) reaches)
      ]

  pub inserted-overflow : AllBelow x l → x < g → inserted x (l ++ (r ++ m)) ≡ l ++ (inserted x front ++ inserted g m)
  inserted-overflow below p =
      let above : AllAbove x (g ∷ m) = (p, all-weaker (λ z. g < z) (λ z. x < z) (λ z q. omega arith) m greatest-below) in
      ap (λ z. inserted x (l ++ (z ++ m))) e
      ∙ ap (λ z. inserted x (l ++ z)) (append_assoc front (g ∷ []) m)
      ∙ inserted-past x l (front ++ (g ∷ m)) below
      ∙ ap (λ z. l ++ z) (inserted-before x front (g ∷ m) above ∙ ap (λ z. inserted x front ++ z) (sym (inserted-above g m greatest-below)))

-- a block whose row is the value alone, as the numbers d
pub removed-only : (x : ℕ) (d l r m : List ℕ) → d ≡ l ++ (r ++ m) → Rises d → r ≡ x ∷ [] → removed x d ≡ l ++ m
removed-only x d l r m is s e =
    let at : d ≡ l ++ (x ∷ m) = is ∙ ap (λ z. l ++ (z ++ m)) e in
    let u : Rises (l ++ (x ∷ m)) = subst Rises at s in
    let below : AllBelow x l = all-weaker (λ y. AllAbove y (x ∷ m)) (λ y. y < x) (λ y a. a.0) l (apart l (x ∷ m) u) in
    let above : AllAbove x m = (rises-right l (x ∷ m) u).0 in
    let same = eq-eqb x x refl in
    let none : removed x (x ∷ []) ≡ [] = rw same refl in
    ap (removed x) at ∙ removed-amid x l (x ∷ []) m below above ∙ ap (λ z. l ++ (z ++ m)) none
