-- Entries in order of their numbers: a list in order is told by what it has of each number.
use Rattle.std.proofs.Common.{◌≡◌, ℕ, suc, ◌<◌, ◌≤◌, Bool, true, false, cond, List, [], ◌∷◌, length, get_or, nat_cmp}
use Rattle.std.proofs.Common.{refl, ap, sym, subst, ◌∙◌, arith, eq-eqb, ne_eqb, inl, inr}
use Rattle.std.specs.Prelude.{◌⊎◌, ◌==◌, ◌&&◌, not, filter, nat_le, nat_lt}
use Rattle.std.specs.Ordering.{is_lt}
use Rattle.std.proofs.Common.{Less, Equal, Greater}
use Rattle.std.specs.List.Sorted.{IsNonDecreasingBy, IsStableByKey, ties}
use Rattle.std.proofs.lemmas.Bool.{cases_eq, cases_lt, le-ltb, leb-false, leb-true, lt-ltb}
use Rattle.std.proofs.lemmas.List.Elements.{filter_agree}
use Rattle.hac_model.specs.Payload.States.{by_number, put_by_number}
use Rattle.hac_model.specs.declared.states.Body.TheVariants.{Dir}
use Rattle.hac_model.specs.declared.states.Entry.{Entry}

-- the entries of a number, as they stand
abbrev pub numbered : ℕ → List Entry → List Entry
numbered n es = filter (λ entry. entry.number == n) es

-- no number is below the one
abbrev pub From : ℕ → List Entry → Type 0
From least [] = Unit {0}
From least (e ∷ es) = (least ≤ e.number) × From least es

-- no number is below one before it
abbrev pub InOrder : List Entry → Type 0
InOrder [] = Unit {0}
InOrder (e ∷ es) = From e.number es × InOrder es

pub from-lower : (low high : ℕ) (es : List Entry) → low ≤ high → From high es → From low es
from-lower low high [] more h = tt
from-lower low high (e ∷ es) more h = (omega (arith, h.0), from-lower low high es more h.1)

-- none of them has a lower number
numbered-low : (n least : ℕ) (es : List Entry) → n < least → From least es → numbered n es ≡ []
numbered-low n least [] less h = refl
numbered-low n least (e ∷ es) less h =
    ap (λ (b : Bool). cond b (e ∷ numbered n es) (numbered n es)) (ne_eqb e.number n (λ same. omega (arith, h.0)))
    ∙ numbered-low n least es less h.1

pub numbered-own : (e : Entry) (es : List Entry) → numbered e.number (e ∷ es) ≡ e ∷ numbered e.number es
numbered-own e es =
    ap (λ (b : Bool). cond b (e ∷ numbered e.number es) (numbered e.number es)) (eq-eqb e.number e.number refl)

pub numbered-other : (n : ℕ) (e : Entry) (es : List Entry) → (e.number ≡ n → ⊥) → numbered n (e ∷ es) ≡ numbered n es
numbered-other n e es other = ap (λ (b : Bool). cond b (e ∷ numbered n es) (numbered n es)) (ne_eqb e.number n other)

-- lists in order that have the same of each number are the same
pub alike : (xs ys : List Entry) → InOrder xs → InOrder ys → ((n : ℕ) → numbered n xs ≡ numbered n ys) → xs ≡ ys
alike [] [] h k same = refl
alike [] (y ∷ ys) h k same = let found : [] ≡ y ∷ numbered y.number ys = same y.number ∙ numbered-own y ys in absurd cc
alike (x ∷ xs) [] h k same = let found : x ∷ numbered x.number xs ≡ [] = sym (numbered-own x xs)
    ∙ same x.number in absurd cc
alike (x ∷ xs) (y ∷ ys) h k same =
    let numbers : x.number ≡ y.number = one x xs y ys h.0 k.0 same in
    let both : x ∷ numbered x.number xs ≡ y ∷ numbered x.number ys =
    sym (numbered-own x xs) ∙ same x.number ∙ ap (λ (n : ℕ). numbered n (y ∷ ys)) numbers ∙ numbered-own y ys
    ∙ ap (λ (n : ℕ). y ∷ numbered n ys) (sym numbers) in
    let first : x ≡ y = cc in
    let behind : numbered x.number xs ≡ numbered x.number ys = cc in
    let rest : xs ≡ ys = alike xs ys h.1 k.1 (λ n. left n (cases_eq x.number n) numbers behind) in
    λ i. first i ∷ rest i
  where
    missing : (x : Entry) (xs : List Entry) (y : Entry) (ys : List Entry) → From y.number ys
        → ((n : ℕ) → numbered n (x ∷ xs) ≡ numbered n (y ∷ ys)) → x.number < y.number → ⊥
    missing x xs y ys k same less =
        let found : x ∷ numbered x.number xs ≡ [] =
        sym (numbered-own x xs) ∙ same x.number ∙ numbered-other x.number y ys (λ even. omega arith)
        ∙ numbered-low x.number y.number ys less k in
        cc

    one : (x : Entry) (xs : List Entry) (y : Entry) (ys : List Entry) → From x.number xs → From y.number ys
        → ((n : ℕ) → numbered n (x ∷ xs) ≡ numbered n (y ∷ ys)) → x.number ≡ y.number
    one x xs y ys h k same = elim (cases_lt x.number y.number) [
      | inl less ↦ absurd (missing x xs y ys k same less)
      | inr more ↦ elim (cases_eq x.number y.number) [
        | inl even ↦ even
        | inr other ↦ absurd (missing y ys x xs h (λ n. sym (same n)) (omega arith))
      ]
    ]

    left : (n : ℕ) → (x.number ≡ n) ⊎ (x.number ≡ n → ⊥) → x.number ≡ y.number
        → numbered x.number xs ≡ numbered x.number ys → numbered n xs ≡ numbered n ys
    left n (inl own) numbers behind = subst (λ (m : ℕ). numbered m xs ≡ numbered m ys) own behind
    left n (inr other) numbers behind =
        sym (numbered-other n x xs other) ∙ same n ∙ numbered-other n y ys (λ even. other (numbers ∙ even))

-- ---- by number

-- two entries of which one isn't kept may change places
pub swapped : (a b : Bool) (x y : Entry) (zs : List Entry) → (a ≡ true → b ≡ false)
    → cond a (x ∷ cond b (y ∷ zs) zs) (cond b (y ∷ zs) zs) ≡ cond b (y ∷ cond a (x ∷ zs) zs) (cond a (x ∷ zs) zs)
swapped true true x y zs h = let never : true ≡ false = h refl in absurd cc
swapped true false x y zs h = refl
swapped false true x y zs h = refl
swapped false false x y zs h = refl

-- an entry that is put into its place is among those of its number as if it stood before the others
put-numbered : (n : ℕ) (new : Entry) (es : List Entry) → numbered n (put_by_number new es) ≡ numbered n (new ∷ es)
put-numbered n new [] = refl
put-numbered n new (e ∷ es) =
    elim (nat_le new.number e.number)
    as (λ b. nat_le new.number e.number ≡ b → numbered n (cond b (new ∷ e ∷ es) (e ∷ put_by_number new es))
    ≡ numbered n (new ∷ e ∷ es)) [
      | true ↦ (λ here. refl)
      | false ↦ (λ behind.
          let less : e.number < new.number = leb-false new.number e.number behind in
          ap (λ (xs : List Entry). cond (e.number == n) (e ∷ xs) xs) (put-numbered n new es)
          ∙ swapped (e.number == n) (new.number == n) e new (numbered n es) (apart (cases_eq new.number n) less))
    ] refl
  where
    apart : (new.number ≡ n) ⊎ (new.number ≡ n → ⊥) → e.number < new.number → (e.number == n) ≡ true
        → (new.number == n) ≡ false
    apart (inl same) less own =
        let never : (e.number == n) ≡ false = ne_eqb e.number n (λ even. omega arith) in absurd cc
    apart (inr other) less own = ne_eqb new.number n other

pub by-numbered : (n : ℕ) (es : List Entry) → numbered n (by_number es) ≡ numbered n es
by-numbered n [] = refl
by-numbered n (e ∷ es) = put-numbered n e (by_number es)
    ∙ ap (λ (xs : List Entry). cond (e.number == n) (e ∷ xs) xs) (by-numbered n es)

put-from : (least : ℕ) (new : Entry) (es : List Entry) → least ≤ new.number → From least es
    → From least (put_by_number new es)
put-from least new [] low h = (low, tt)
put-from least new (e ∷ es) low h =
    elim (nat_le new.number e.number) as (λ b. From least (cond b (new ∷ e ∷ es) (e ∷ put_by_number new es))) [
      | true ↦ (low, h)
      | false ↦ (h.0, put-from least new es low h.1)
    ]

put-in-order : (new : Entry) (es : List Entry) → InOrder es → InOrder (put_by_number new es)
put-in-order new [] h = (tt, tt)
put-in-order new (e ∷ es) h =
    elim (nat_le new.number e.number)
    as (λ b. nat_le new.number e.number ≡ b → InOrder (cond b (new ∷ e ∷ es) (e ∷ put_by_number new es))) [
      | true ↦ (λ here.
          let low : new.number ≤ e.number = leb-true new.number e.number here in
          ((low, from-lower new.number e.number es low h.0), h))
      | false ↦ (λ behind.
          let less : e.number < new.number = leb-false new.number e.number behind in
          (put-from e.number new es (omega arith) h.0, put-in-order new es h.1))
    ] refl

pub by-in-order : (es : List Entry) → InOrder (by_number es)
by-in-order [] = tt
by-in-order (e ∷ es) = put-in-order e (by_number es) (by-in-order es)

-- ---- a sort

order-index : (es : List Entry) → IsNonDecreasingBy (λ e. e.number) es → InOrder es
order-index [] h = tt
order-index (e ∷ es) h = (
  from-index e.number es (λ k d inside. h 0 (suc k) d (omega arith) (omega arith)),
  order-index es (λ i j d low high. h (suc i) (suc j) d (omega arith) (omega arith)),
)
  where
    from-index : (least : ℕ) (es : List Entry) → ((k : ℕ) (d : Entry) → k < length es → least ≤ (get_or es k d).number)
        → From least es
    from-index least [] h = tt
    from-index least (e ∷ es) h = (h 0 e (omega arith), from-index least es (λ k d inside. h (suc k) d (omega arith)))

less-is : (m n : ℕ) → is_lt (nat_cmp m n) ≡ nat_lt m n
less-is m n = elim (nat_lt m n) as (λ b. is_lt (cond b Less (cond (m == n) Equal Greater)) ≡ b) [
  | true ↦ refl
  | false ↦ elim (m == n) as (λ b. is_lt (cond b Equal Greater) ≡ false) [ true ↦ refl | false ↦ refl ]
]

tie-is : (m n : ℕ) → (not (is_lt (nat_cmp m n)) && not (is_lt (nat_cmp n m))) ≡ (n == m)
tie-is m n = ap (λ (b : Bool). not b && not (is_lt (nat_cmp n m))) (less-is m n)
    ∙ ap (λ (b : Bool). not (nat_lt m n) && not b) (less-is n m) ∙ cases (cases_lt m n) (cases_lt n m)
  where
    cases : (m < n) ⊎ (n ≤ m) → (n < m) ⊎ (m ≤ n) → (not (nat_lt m n) && not (nat_lt n m)) ≡ (n == m)
    cases (inl less) other = ap (λ (b : Bool). not b && not (nat_lt n m)) (lt-ltb m n less)
        ∙ sym (ne_eqb n m (λ same. omega arith))
    cases (inr low) (inl more) = ap (λ (b : Bool). not b && not (nat_lt n m)) (le-ltb m n low)
        ∙ ap (λ (b : Bool). not b) (lt-ltb n m more) ∙ sym (ne_eqb n m (λ same. omega arith))
    cases (inr low) (inr high) = ap (λ (b : Bool). not b && not (nat_lt n m)) (le-ltb m n low)
        ∙ ap (λ (b : Bool). not b) (le-ltb n m high) ∙ sym (eq-eqb n m (omega arith))

-- a stable sort by number
pub sorted-by : (xs ys : List Entry) → IsNonDecreasingBy (λ e. e.number) ys
    → IsStableByKey (λ e. e.number) nat_cmp xs ys → ys ≡ by_number xs
sorted-by xs ys up stable =
    alike ys (by_number xs) (order-index ys up) (by-in-order xs) (λ n. same n ∙ sym (by-numbered n xs))
  where
    same : (n : ℕ) → numbered n ys ≡ numbered n xs
    same n =
        let one : Entry = record { number = n; parent = 0; name = []; body = Dir } in
        let tied : Entry → Bool = ties (λ (x y : Entry). is_lt (nat_cmp x.number y.number)) one in
        let agree = filter_agree tied (λ (e : Entry). e.number == n) (λ e. tie-is n e.number) in
        sym (agree ys) ∙ stable one ∙ agree xs
