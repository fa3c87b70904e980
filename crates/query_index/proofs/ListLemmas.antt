-- Tests, and whether one element of a list passes.
use Rattle.std.proofs.Common.{◌≡◌, ℕ, zero, suc, ◌<◌, Bool, true, false, cond, List, [], ◌∷◌, refl, ap, subst, sym, ◌∙◌, arith, inl, inr}
use Rattle.std.specs.Prelude.{◌==◌, ◌&&◌, ◌||◌, filter}
use Rattle.std.specs.List.{list_any}
use Rattle.std.proofs.lemmas.Bool.{cases_eq, eq-eqb, eqb-true, or_cases, or_left, or_right}
use Rattle.hac_model.specs.Tree.Links.{has}
use Rattle.query_index.specs.Numbers.{any_below}
use Rattle.hac_model.proofs.BoolLemmas.{agree}

pub or-assoc : (a b c : Bool) → ((a || b) || c) ≡ (a || (b || c))
or-assoc true b c = refl
or-assoc false b c = refl

or-pairs : (a b c d : Bool) → ((a || b) || (c || d)) ≡ ((a || c) || (b || d))
or-pairs true b c d = refl
or-pairs false true true d = refl
or-pairs false true false d = refl
or-pairs false false c d = refl

-- Some element of a list.

pub any-none : {X : Type 0} (xs : List X) → list_any (λ _. false) xs ≡ false
any-none [] = refl
any-none (x ∷ xs) = any-none xs

pub any-either : {X : Type 0} (p q : X → Bool) (xs : List X) → list_any (λ x. p x || q x) xs ≡ (list_any p xs || list_any q xs)
any-either p q [] = refl
any-either p q (x ∷ xs) = ap (λ (b : Bool). (p x || q x) || b) (any-either p q xs) ∙ or-pairs (p x) (q x) (list_any p xs) (list_any q xs)

-- Some number below another.

pub below-none : (n : ℕ) → any_below n (λ _. false) ≡ false
below-none zero = refl
below-none (suc n) = ap (λ (b : Bool). b || false) (below-none n)

pub below-any : {X : Type 0} (p : ℕ → X → Bool) (xs : List X) (n : ℕ) → any_below n (λ k. list_any (p k) xs) ≡ list_any (λ x. any_below n (λ k. p k x)) xs
below-any p xs zero = sym (any-none xs)
below-any p xs (suc n) = ap (λ (b : Bool). b || list_any (p n) xs) (below-any p xs n) ∙ sym (any-either (λ x. any_below n (λ k. p k x)) (p n) xs)

pub below-some : (p : ℕ → Bool) (n : ℕ) → any_below n p ≡ true → (k : ℕ) × (k < n) × (p k ≡ true)
below-some p zero is = absurd cc
below-some p (suc n) is = elim (or_cases (any_below n p) (p n) is) [
  | inl earlier ↦ (let some = below-some p n earlier in (some.0, omega (arith, some.1), some.2))
  | inr last ↦ (n, omega arith, last)
]

pub below-at : (p : ℕ → Bool) (n k : ℕ) → k < n → p k ≡ true → any_below n p ≡ true
below-at p zero k inside is = absurd (omega arith)
below-at p (suc n) k inside is = elim (cases_eq k n) [
  | inl last ↦ or_right (any_below n p) (p n) (subst (λ (m : ℕ). p m ≡ true) last is)
  | inr other ↦ or_left (any_below n p) (p n) (below-at p n k (omega (arith, other, inside)) is)
]

-- The numbers at which elements pass.

pub any-filter : {X : Type 0} (p q : X → Bool) (xs : List X) → list_any p (filter q xs) ≡ list_any (λ x. q x && p x) xs
any-filter p q [] = refl
any-filter p q (x ∷ xs) = of (q x) (any-filter p q xs)
  where
    of : (b : Bool) → list_any p (filter q xs) ≡ list_any (λ x. q x && p x) xs → list_any p (cond b (x ∷ filter q xs) (filter q xs)) ≡ ((b && p x) || list_any (λ x. q x && p x) xs)
    of true rest = ap (λ (b : Bool). p x || b) rest
    of false rest = rest

any-number : (p : ℕ → Bool) (ns : List ℕ) → list_any p ns ≡ true → (n : ℕ) × (has ns n ≡ true) × (p n ≡ true)
any-number p [] is = absurd cc
any-number p (n ∷ ns) is = elim (or_cases (p n) (list_any p ns) is) [
  | inl first ↦ (n, or_left (n == n) (has ns n) (eq-eqb n n refl), first)
  | inr later ↦ (let some = any-number p ns later in (some.0, or_right (n == some.0) (has ns some.0) some.1, some.2))
]

any-has : (p : ℕ → Bool) (ns : List ℕ) (n : ℕ) → has ns n ≡ true → p n ≡ true → list_any p ns ≡ true
any-has p [] n there is = absurd cc
any-has p (m ∷ ns) n there is = elim (or_cases (m == n) (has ns n) there) [
  | inl first ↦ or_left (p m) (list_any p ns) (ap p (eqb-true m n first) ∙ is)
  | inr later ↦ or_right (p m) (list_any p ns) (any-has p ns n later is)
]

any-weaker : {X : Type 0} (p q : X → Bool) (xs : List X) → ((x : X) → p x ≡ true → q x ≡ true) → list_any p xs ≡ true → list_any q xs ≡ true
any-weaker p q [] weaker is = absurd cc
any-weaker p q (x ∷ xs) weaker is = elim (or_cases (p x) (list_any p xs) is) [
  | inl first ↦ or_left (q x) (list_any q xs) (weaker x first)
  | inr later ↦ or_right (q x) (list_any q xs) (any-weaker p q xs weaker later)
]

any-element : {X : Type 0} (q : X → Bool) (xs : List X) → list_any q xs ≡ true → (x : X) × (q x ≡ true) × ((p : X → Bool) → p x ≡ true → list_any p xs ≡ true)
any-element q [] is = absurd cc
any-element q (x ∷ xs) is = elim (or_cases (q x) (list_any q xs) is) [
  | inl first ↦ (x, first, λ p passes. or_left (p x) (list_any p xs) passes)
  | inr later ↦ (let some = any-element q xs later in (some.0, some.1, λ p passes. or_right (p x) (list_any p xs) (some.2 p passes)))
]

-- where numbers are those at which elements pass a test, one of the numbers passes another test where an element passes a third
pub any-met : {X : Type 0} (p : ℕ → Bool) (test : X → ℕ → Bool) (q : X → Bool) (ns : List ℕ) (xs : List X) → ((n : ℕ) → has ns n ≡ list_any (λ x. test x n) xs) →
    ((x : X) (n : ℕ) → test x n ≡ true → p n ≡ true → q x ≡ true) → ((x : X) → q x ≡ true → (n : ℕ) × (test x n ≡ true) × (p n ≡ true)) → list_any p ns ≡ list_any q xs
any-met p test q ns xs those there back = agree (list_any p ns) (list_any q xs)
    (λ is. let some = any-number p ns is in any-weaker (λ x. test x some.0) q xs (λ x passes. there x some.0 passes some.2) (sym (those some.0) ∙ some.1))
    (λ is. let some = any-element q xs is in let at = back some.0 some.1 in any-has p ns at.0 (those at.0 ∙ some.2 (λ x. test x at.0) at.1) at.2)
