-- Who is among the numbers of two lists that are joined.
use Rattle.std.proofs.Common.{[], ap, Bool, eq-eqb, false, inl, inr, List, refl, sym, true, ℕ, ◌++◌, ◌∙◌, ◌∷◌, ◌≡◌}
use Rattle.std.specs.Prelude.{◌==◌, ◌||◌, ◌⊎◌}
use Rattle.hac_model.specs.Tree.Depends.{Among}
use Rattle.std.proofs.lemmas.Bool.{cases_eq, eqb-true, ne_eqb}
use Rattle.hac_model.specs.Tree.Links.{has}

pub among-left : (xs ys : List ℕ) (n : ℕ) → Among xs n → Among (xs ++ ys) n
among-left [] ys n h = absurd h
among-left (x ∷ xs) ys n (inl here) = inl here
among-left (x ∷ xs) ys n (inr later) = inr (among-left xs ys n later)

pub among-right : (xs ys : List ℕ) (n : ℕ) → Among ys n → Among (xs ++ ys) n
among-right [] ys n h = h
among-right (x ∷ xs) ys n h = inr (among-right xs ys n h)

pub among-append : (xs ys : List ℕ) (n : ℕ) → Among (xs ++ ys) n → Among xs n ⊎ Among ys n
among-append [] ys n h = inr h
among-append (x ∷ xs) ys n (inl here) = inl (inl here)
among-append (x ∷ xs) ys n (inr later) = elim (among-append xs ys n later) as (λ _. Among (x ∷ xs) n ⊎ Among ys n) [ inl left ↦ inl (inr left) | inr right ↦ inr right ]

-- a list has what is among its numbers
pub has-among : (ns : List ℕ) (n : ℕ) → has ns n ≡ true → Among ns n
has-among [] n is = absurd cc
has-among (m ∷ ns) n is = elim (m == n) as (λ b. (m == n) ≡ b → (b || has ns n) ≡ true → (m ≡ n) ⊎ Among ns n) [
  | true ↦ (λ same is. inl (eqb-true m n same))
  | false ↦ (λ other is. inr (has-among ns n is))
] refl is

pub among-has : (ns : List ℕ) (n : ℕ) → Among ns n → has ns n ≡ true
among-has [] n among = absurd among
among-has (m ∷ ns) n (inl same) = ap (λ (b : Bool). b || has ns n) (eq-eqb m n same)
among-has (m ∷ ns) n (inr rest) = elim (m == n) as (λ b. (b || has ns n) ≡ true) [ true ↦ refl | false ↦ among-has ns n rest ]

pub eqb-turned : (a b : ℕ) → (a == b) ≡ (b == a)
eqb-turned a b =
    elim (cases_eq a b) [
      | inl same ↦ eq-eqb a b same ∙ sym (eq-eqb b a (sym same))
      | inr differ ↦ ne_eqb a b differ ∙ sym (ne_eqb b a (λ same. differ (sym same)))
    ]
