-- Facts on lists of numbers that rise.
use Rattle.std.proofs.Common.{◌≡◌, ℕ, ◌<◌, ◌≤◌, Bool, true, false, cond, not, ◌||◌, eqb, ltb, leb, List, [], ◌∷◌, ◌++◌, refl, sym, ap, ◌∙◌, subst, append_assoc, arith, inl, inr, Option, Some, None}
use Rattle.std.specs.List.{AllByRecursion, filter, find, list_any}
use Rattle.std.specs.Option.{option_or}
use Rattle.std.proofs.lemmas.Bool.{lt-ltb, le-ltb, le-leb, lt-leb, leb-true, eq-eqb, ne_eqb, or_cases, cases_order, both_ways}
use Rattle.std.proofs.lemmas.List.Elements.{filter-append}
use Rattle.std.proofs.lemmas.List.Folds.{find-append, list_any-append}
use Rattle.set_pool.specs.Rising.{AllAbove, AllBelow, Rises, first_from, inserted, is_among, removed}

pub all-left : (P : ℕ → Type 0) (l m : List ℕ) → AllByRecursion P (l ++ m) → AllByRecursion P l
all-left P [] m a = tt
all-left P (y ∷ l) m a = (a.0, all-left P l m a.1)

pub all-right : (P : ℕ → Type 0) (l m : List ℕ) → AllByRecursion P (l ++ m) → AllByRecursion P m
all-right P [] m a = a
all-right P (y ∷ l) m a = all-right P l m a.1

pub all-join : (P : ℕ → Type 0) (l m : List ℕ) → AllByRecursion P l → AllByRecursion P m → AllByRecursion P (l ++ m)
all-join P [] m a b = b
all-join P (y ∷ l) m a b = (a.0, all-join P l m a.1 b)

pub all-weaker : (P Q : ℕ → Type 0) → ((y : ℕ) → P y → Q y) → (xs : List ℕ) → AllByRecursion P xs → AllByRecursion Q xs
all-weaker P Q f [] a = tt
all-weaker P Q f (y ∷ xs) a = (f y a.0, all-weaker P Q f xs a.1)

all-filter_cases : (P : ℕ → Type 0) (b : Bool) (y : ℕ) (xs : List ℕ) → P y → AllByRecursion P xs → AllByRecursion P (cond b (y ∷ xs) xs)
all-filter_cases P true y xs p a = (p, a)
all-filter_cases P false y xs p a = a

pub all-filter : (P : ℕ → Type 0) (test : ℕ → Bool) (xs : List ℕ) → AllByRecursion P xs → AllByRecursion P (filter test xs)
all-filter P test [] a = tt
all-filter P test (y ∷ xs) a = all-filter_cases P (test y) y (filter test xs) a.0 (all-filter P test xs a.1)

-- each number of what passes a test passes it
pub passes : (test : ℕ → Bool) (xs : List ℕ) → AllByRecursion (λ y. test y ≡ true) (filter test xs)
passes test [] = tt
passes test (y ∷ xs) =
    elim (test y) as (λ b. test y ≡ b → AllByRecursion (λ z. test z ≡ true) (cond b (y ∷ filter test xs) (filter test xs))) [
      | true ↦ λ e. (e, passes test xs)
      | false ↦ λ e. passes test xs
    ] refl

pub rises-left : (l m : List ℕ) → Rises (l ++ m) → Rises l
rises-left [] m s = tt
rises-left (y ∷ l) m s = (all-left (λ z. y < z) l m s.0, rises-left l m s.1)

pub rises-right : (l m : List ℕ) → Rises (l ++ m) → Rises m
rises-right [] m s = s
rises-right (y ∷ l) m s = rises-right l m s.1

-- each of the front is below all of the back
pub apart : (l m : List ℕ) → Rises (l ++ m) → AllByRecursion (λ y. AllAbove y m) l
apart [] m s = tt
apart (y ∷ l) m s = (all-right (λ z. y < z) l m s.0, apart l m s.1)

pub rises-join : (l m : List ℕ) → Rises l → Rises m → AllByRecursion (λ y. AllAbove y m) l → Rises (l ++ m)
rises-join [] m s u a = u
rises-join (y ∷ l) m s u a = (all-join (λ z. y < z) l m s.0 a.0, rises-join l m s.1 u a.1)

rises-filter_cases : (b : Bool) (y : ℕ) (xs : List ℕ) → AllAbove y xs → Rises xs → Rises (cond b (y ∷ xs) xs)
rises-filter_cases true y xs a s = (a, s)
rises-filter_cases false y xs a s = s

pub rises-filter : (test : ℕ → Bool) (xs : List ℕ) → Rises xs → Rises (filter test xs)
rises-filter test [] s = tt
rises-filter test (y ∷ xs) s = rises-filter_cases (test y) y (filter test xs) (all-filter (λ z. y < z) test xs s.0) (rises-filter test xs s.1)

pub rises-removed : (x : ℕ) (xs : List ℕ) → Rises xs → Rises (removed x xs)
rises-removed x xs s = rises-filter _ xs s

pub rises-inserted : (x : ℕ) (xs : List ℕ) → Rises xs → Rises (inserted x xs)
rises-inserted x xs s =
    let low = filter (λ y. ltb y x) xs in
    let high = filter (λ y. ltb x y) xs in
    let lows : AllBelow x low = all-weaker (λ y. ltb y x ≡ true) (λ y. y < x) (λ y e. Rattle.std.proofs.lemmas.Bool.ltb-true y x e) low (passes (λ y. ltb y x) xs) in
    let highs : AllAbove x high = all-weaker (λ y. ltb x y ≡ true) (λ y. x < y) (λ y e. Rattle.std.proofs.lemmas.Bool.ltb-true x y e) high (passes (λ y. ltb x y) xs) in
    rises-join low (x ∷ high) (rises-filter _ xs s) (highs, rises-filter _ xs s)
    (all-weaker (λ y. y < x) (λ y. AllAbove y (x ∷ high)) (λ y h. (h, all-weaker (λ z. x < z) (λ z. y < z) (λ z k. omega arith) high highs)) low lows)

-- what passes a test that all pass, or that none passes
filter-all : (test : ℕ → Bool) (xs : List ℕ) → AllByRecursion (λ y. test y ≡ true) xs → filter test xs ≡ xs
filter-all test [] a = refl
filter-all test (y ∷ xs) a = let e = a.0 in rw e (ap (λ z. y ∷ z) (filter-all test xs a.1))

filter-none : (test : ℕ → Bool) (xs : List ℕ) → AllByRecursion (λ y. test y ≡ false) xs → filter test xs ≡ []
filter-none test [] a = refl
filter-none test (y ∷ xs) a = let e = a.0 in rw e (filter-none test xs a.1)

any-none : (test : ℕ → Bool) (xs : List ℕ) → AllByRecursion (λ y. test y ≡ false) xs → list_any test xs ≡ false
any-none test [] a = refl
any-none test (y ∷ xs) a = let e = a.0 in rw e (any-none test xs a.1)

find-none : (test : ℕ → Bool) (xs : List ℕ) → AllByRecursion (λ y. test y ≡ false) xs → find test xs ≡ None
find-none test [] a = refl
find-none test (y ∷ xs) a = let e = a.0 in rw e (find-none test xs a.1)

-- numbers below or above the value, seen by each test
pub is_among-below : (x : ℕ) (xs : List ℕ) → AllBelow x xs → is_among x xs ≡ false
is_among-below x xs a = any-none _ xs (all-weaker _ _ (λ y h. ne_eqb x y (omega arith)) xs a)

pub is_among-above : (x : ℕ) (xs : List ℕ) → AllAbove x xs → is_among x xs ≡ false
is_among-above x xs a = any-none _ xs (all-weaker _ _ (λ y h. ne_eqb x y (omega arith)) xs a)

removed-below : (x : ℕ) (xs : List ℕ) → AllBelow x xs → removed x xs ≡ xs
removed-below x xs a = filter-all _ xs (all-weaker _ (λ y. not (eqb x y) ≡ true) (λ y h. ap not (ne_eqb x y (omega arith))) xs a)

pub removed-above : (x : ℕ) (xs : List ℕ) → AllAbove x xs → removed x xs ≡ xs
removed-above x xs a = filter-all _ xs (all-weaker _ (λ y. not (eqb x y) ≡ true) (λ y h. ap not (ne_eqb x y (omega arith))) xs a)

lows-below : (x : ℕ) (xs : List ℕ) → AllBelow x xs → filter (λ y. ltb y x) xs ≡ xs
lows-below x xs a = filter-all _ xs (all-weaker _ _ (λ y h. lt-ltb y x h) xs a)

highs-below : (x : ℕ) (xs : List ℕ) → AllBelow x xs → filter (λ y. ltb x y) xs ≡ []
highs-below x xs a = filter-none _ xs (all-weaker _ _ (λ y h. le-ltb x y (omega arith)) xs a)

lows-above : (x : ℕ) (xs : List ℕ) → AllAbove x xs → filter (λ y. ltb y x) xs ≡ []
lows-above x xs a = filter-none _ xs (all-weaker _ _ (λ y h. le-ltb y x (omega arith)) xs a)

highs-above : (x : ℕ) (xs : List ℕ) → AllAbove x xs → filter (λ y. ltb x y) xs ≡ xs
highs-above x xs a = filter-all _ xs (all-weaker _ _ (λ y h. lt-ltb x y h) xs a)

first_from-below : (x : ℕ) (xs : List ℕ) → AllBelow x xs → first_from x xs ≡ None
first_from-below x xs a = find-none _ xs (all-weaker _ _ (λ y h. lt-leb x y h) xs a)

-- a value that all are above is put in front
pub inserted-above : (x : ℕ) (xs : List ℕ) → AllAbove x xs → inserted x xs ≡ x ∷ xs
inserted-above x xs a = rw (lows-above x xs a, highs-above x xs a)

pub inserted-past : (x : ℕ) (l m : List ℕ) → AllBelow x l → inserted x (l ++ m) ≡ l ++ inserted x m
inserted-past x l m a =
    rw (filter-append (λ y. ltb y x) l m, filter-append (λ y. ltb x y) l m, lows-below x l a, highs-below x l a)
    (append_assoc l (filter (λ y. ltb y x) m) (x ∷ filter (λ y. ltb x y) m))

pub inserted-before : (x : ℕ) (l m : List ℕ) → AllAbove x m → inserted x (l ++ m) ≡ inserted x l ++ m
inserted-before x l m a =
    rw (filter-append (λ y. ltb y x) l m, filter-append (λ y. ltb x y) l m, lows-above x m a, highs-above x m a)
    (rw Rattle.std.proofs.Common.append-nil (sym (append_assoc (filter (λ y. ltb y x) l) (x ∷ filter (λ y. ltb x y) l) m)))

-- a value that is there already
pub inserted-present : (x : ℕ) (xs : List ℕ) → Rises xs → is_among x xs ≡ true → inserted x xs ≡ xs
inserted-present x [] s e = cc
inserted-present x (y ∷ t) s e =
    elim (cases_order x y) [
      | inl same ↦
          let above : AllAbove x t = all-weaker (λ z. y < z) (λ z. x < z) (λ z q. omega arith) t s.0 in
          let low = le-ltb y x (omega arith) in
          let high = le-ltb x y (omega arith) in
          rw (low, high, lows-above x t above, highs-above x t above) (ap (λ z. z ∷ t) same)
      | inr (inl less) ↦ absurd (both_ways _ (is_among-above x (y ∷ t) (less, all-weaker (λ z. y < z) (λ z. x < z) (λ z q. omega arith) t s.0)) e)
      | inr (inr more) ↦ inserted-past x (y ∷ []) t (more, tt) ∙ ap (λ z. y ∷ z) (inserted-present x t s.1 (let other = ne_eqb x y (omega arith) in rw other at e))
    ]

-- no member that isn't below the value, where all are below it
pub none-from : (x : ℕ) (xs : List ℕ) → AllBelow x xs → list_any (λ y. leb x y) xs ≡ false
none-from x xs a = any-none _ xs (all-weaker _ _ (λ y h. lt-leb x y h) xs a)

-- a value among three lists, where the first are below it and the last are above it
pub inserted-amid : (x : ℕ) (l r m : List ℕ) → AllBelow x l → AllAbove x m → inserted x (l ++ (r ++ m)) ≡ l ++ (inserted x r ++ m)
inserted-amid x l r m a b = inserted-past x l (r ++ m) a ∙ ap (λ z. l ++ z) (inserted-before x r m b)

pub removed-amid : (x : ℕ) (l r m : List ℕ) → AllBelow x l → AllAbove x m → removed x (l ++ (r ++ m)) ≡ l ++ (removed x r ++ m)
removed-amid x l r m a b = rw (filter-append (λ y. not (eqb x y)) l (r ++ m), filter-append (λ y. not (eqb x y)) r m, removed-below x l a, removed-above x m b)

pub is_among-amid : (x : ℕ) (l r m : List ℕ) → AllBelow x l → AllAbove x m → is_among x (l ++ (r ++ m)) ≡ is_among x r
is_among-amid x l r m a b =
    rw (list_any-append (λ y. eqb x y) l (r ++ m), list_any-append (λ y. eqb x y) r m, is_among-below x l a, is_among-above x m b) (or-false (is_among x r))
  where
    or-false : (b : Bool) → (b || false) ≡ b
    or-false true = refl
    or-false false = refl

pub is_among-past : (x : ℕ) (l m : List ℕ) → AllBelow x l → is_among x (l ++ m) ≡ is_among x m
is_among-past x l m a = rw (list_any-append (λ y. eqb x y) l m, is_among-below x l a)

pub removed-past : (x : ℕ) (l m : List ℕ) → AllBelow x l → removed x (l ++ m) ≡ l ++ removed x m
removed-past x l m a = rw (filter-append (λ y. not (eqb x y)) l m, removed-below x l a)

pub removed-before : (x : ℕ) (l m : List ℕ) → AllAbove x m → removed x (l ++ m) ≡ removed x l ++ m
removed-before x l m a = rw (filter-append (λ y. not (eqb x y)) l m, removed-above x m a)

pub first_from-past : (x : ℕ) (l m : List ℕ) → AllBelow x l → first_from x (l ++ m) ≡ first_from x m
first_from-past x l m a = rw (find-append (λ y. leb x y) l m, first_from-below x l a)

pub first_from-parts : (x : ℕ) (l m : List ℕ) → first_from x (l ++ m) ≡ option_or (first_from x l) (first_from x m)
first_from-parts x l m = find-append (λ y. leb x y) l m

-- where a value lies beside the row of a block
above-any : (x y : ℕ) (r : List ℕ) → AllAbove y r → list_any (λ z. leb z x) r ≡ true → y < x
above-any x y [] a e = absurd (both_ways false refl e)
above-any x y (z ∷ r) a e =
    elim (or_cases (leb z x) (list_any (λ w. leb w x) r) e) [
      | inl here ↦ let le : z ≤ x = leb-true z x here in let lt : y < z = a.0 in omega arith
      | inr later ↦ above-any x y r a.1 later
    ]

pub below-within : (x : ℕ) (l r m : List ℕ) → Rises (l ++ (r ++ m)) → list_any (λ z. leb z x) r ≡ true → AllBelow x l
below-within x l r m s e = all-weaker (λ y. AllAbove y (r ++ m)) (λ y. y < x) (λ y a. above-any x y r (all-left (λ z. y < z) r m a) e) l (apart l (r ++ m) s)

above-first : (x : ℕ) (r m : List ℕ) → Rises (r ++ m) → list_any (λ z. leb x z) r ≡ true → AllAbove x m
above-first x [] m s e = absurd (both_ways false refl e)
above-first x (z ∷ r) m s e =
    elim (or_cases (leb x z) (list_any (λ w. leb x w) r) e) [
      | inl here ↦ let le : x ≤ z = leb-true x z here in all-weaker (λ w. z < w) (λ w. x < w) (λ w lt. omega arith) m (all-right (λ w. z < w) r m s.0)
      | inr later ↦ above-first x r m s.1 later
    ]

pub above-within : (x : ℕ) (l r m : List ℕ) → Rises (l ++ (r ++ m)) → list_any (λ z. leb x z) r ≡ true → AllAbove x m
above-within x l r m s e = above-first x r m (rises-right l (r ++ m) s) e

pub above-before : (x f : ℕ) (l rest m : List ℕ) → Rises (l ++ ((f ∷ rest) ++ m)) → x < f → AllAbove x ((f ∷ rest) ++ m)
above-before x f l rest m s p =
    let u = rises-right l ((f ∷ rest) ++ m) s in
    (p, all-weaker (λ z. f < z) (λ z. x < z) (λ z lt. omega arith) (rest ++ m) u.0)

pub below-after : (x f : ℕ) (l rest m : List ℕ) → Rises (l ++ ((f ∷ rest) ++ m)) → f < x → AllBelow x l
below-after x f l rest m s p = all-weaker (λ y. AllAbove y ((f ∷ rest) ++ m)) (λ y. y < x) (λ y a. let lt : y < f = a.0 in omega arith) l (apart l ((f ∷ rest) ++ m) s)

-- what rises in three parts rises in each
pub record Parts (l r m : List ℕ) : Type 0 where
  pub left : Rises l
  pub row : Rises r
  pub right : Rises m

pub parts : (l r m : List ℕ) → Rises (l ++ (r ++ m)) → Parts l r m
parts l r m s =
    let u = rises-right l (r ++ m) s in
    record { left = rises-left l (r ++ m) s; row = rises-left r m u; right = rises-right r m u }
