-- Numbers that follow one another.
use Rattle.std.proofs.Common.{◌≡◌, ℕ, zero, suc, ◌+◌, ◌<◌, ◌≤◌, Bool, true, false, List, [], ◌∷◌, ◌++◌, refl, ap, ◌∙◌, arith, inl, inr, eq-eqb, ne_eqb}
use Rattle.std.specs.Prelude.{◌==◌, ◌||◌}
use Rattle.std.specs.List.{range_with_len}
use Rattle.std.proofs.lemmas.Bool.{cases_lt}
use Rattle.std.proofs.Math.Bool.{or-true}
use Rattle.hac_model.specs.Tree.Depends.{Among}
use Rattle.hac_model.specs.Tree.Links.{has}
use Rattle.hac_model.specs.Tree.Valid.{RiseFrom}

-- with one more
pub range-more : (a n : ℕ) → range_with_len a (suc n) ≡ range_with_len a n ++ (a + n) ∷ []
range-more a zero = let same : a ≡ a + zero = omega arith in ap (λ (k : ℕ). k ∷ []) same
range-more a (suc n) = let same : a + 1 + n ≡ a + suc n = omega arith in ap (λ (rest : List ℕ). a ∷ rest) (range-more (a + 1) n ∙ ap (λ (k : ℕ). range_with_len (a + 1) n ++ k ∷ []) same)

-- the numbers from 0 on, with one more
pub range-next : (n : ℕ) → range_with_len 0 (n + 1) ≡ range_with_len 0 n ++ n ∷ []
range-next n = let one : n + 1 ≡ suc n = omega arith in let last : 0 + n ≡ n = omega arith in ap (range_with_len 0) one ∙ range-more 0 n ∙ ap (λ (k : ℕ). range_with_len 0 n ++ k ∷ []) last

-- which they are
pub in-range : (a n k : ℕ) → Among (range_with_len a n) k → a ≤ k
in-range a zero k among = absurd among
in-range a (suc n) k (inl same) = omega (arith, same)
in-range a (suc n) k (inr more) = let next = in-range (a + 1) n k more in omega (arith, next)

pub range-in : (a n k : ℕ) → a ≤ k → k < a + n → Among (range_with_len a n) k
range-in a zero k low high = absurd (omega (arith, low, high))
range-in a (suc n) k low high = elim (cases_lt a k) as (λ _. Among (range_with_len a (suc n)) k) [
  | inl less ↦ inr (range-in (a + 1) n k (omega (arith, less)) (omega (arith, high)))
  | inr none ↦ inl (omega (arith, low, none))
]

pub range-has : (a n k : ℕ) → a ≤ k → k < a + n → has (range_with_len a n) k ≡ true
range-has a zero k low high = absurd (omega (arith, low, high))
range-has a (suc n) k low high = elim (cases_lt a k) as (λ _. has (range_with_len a (suc n)) k ≡ true) [
  | inl less ↦ ap (λ (b : Bool). (a == k) || b) (range-has (a + 1) n k (omega (arith, less)) (omega (arith, high))) ∙ or-true (a == k)
  | inr none ↦ ap (λ (b : Bool). b || has (range_with_len (a + 1) n) k) (eq-eqb a k (omega (arith, low, none)))
]

pub range-ends : (a n k : ℕ) → a + n ≤ k → has (range_with_len a n) k ≡ false
range-ends a zero k high = refl
range-ends a (suc n) k high =
    ap (λ (b : Bool). b || has (range_with_len (a + 1) n) k) (ne_eqb a k (λ same. omega (arith, high, same)))
    ∙ range-ends (a + 1) n k (omega (arith, high))

-- they rise
pub range-rises : (a n : ℕ) → RiseFrom a (range_with_len a n)
range-rises a zero = tt
range-rises a (suc n) = (omega arith, range-rises (a + 1) n)

-- those behind others
pub range-joined : (a m n : ℕ) → range_with_len a m ++ range_with_len (a + m) n ≡ range_with_len a (m + n)
range-joined a zero n = λ i. range_with_len (from i) (count i)
  where
    from : a + zero ≡ a
    from = omega arith

    count : n ≡ zero + n
    count = omega arith
range-joined a (suc m) n =
    let start : a + suc m ≡ a + 1 + m = omega arith in
    let count : suc (m + n) ≡ suc m + n = omega arith in
    ap (λ (k : ℕ). range_with_len a (suc m) ++ range_with_len k n) start
    ∙ ap (λ (ns : List ℕ). a ∷ ns) (range-joined (a + 1) m n)
    ∙ ap (range_with_len a) count
