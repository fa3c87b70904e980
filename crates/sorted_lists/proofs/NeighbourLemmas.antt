-- Names and numbers that rise, by neighbours.
use Rattle.std.proofs.Common.{◌≡◌, ℕ, zero, suc, ◌+◌, ◌-◌, ◌<◌, ◌≤◌, true, false, List, [], ◌∷◌, length, get_or, refl, ap, sym, ◌∙◌, arith, inl, inr}
use Rattle.std.specs.Prelude.{nat_le}
use Rattle.std.specs.List.{list_all}
use Rattle.std.specs.Ordering.{is_le, nat_cmp}
use Rattle.std.proofs.lemmas.Bool.{and_from, and_parts, cases_lt, leb-true, le-leb}
use Rattle.hac_model.specs.Tree.Listing.{is_before}
use Rattle.hac_model.specs.Tree.Mounting.{do_names_rise, do_rise_from}
use Rattle.hac_model.proofs.NameOrderLemmas.{before-trans, chain-rises, IsChain, IsChainTo}
use Rattle.hac_model.proofs.SortedLemmas.{le-told, not-le-told}

-- Names.

-- a name comes before all behind it
chain-all : (x : List ℕ) (xs : List (List ℕ)) → IsChain (x ∷ xs) → list_all (is_before x) xs ≡ true
chain-all x [] chain = refl
chain-all x (y ∷ ys) chain =
    let first : is_before x y ≡ true = chain 0 [] (omega arith) in
    and_from (is_before x y) (list_all (is_before x) ys) first (chain-all x ys (λ k d inside. rest first k d inside))
  where
    rest : is_before x y ≡ true → IsChain (x ∷ ys)
    rest first zero d inside = behind ys chain inside
      where
        behind : (zs : List (List ℕ)) → IsChain (x ∷ y ∷ zs) → suc 0 < length (x ∷ zs) → is_before x (get_or zs 0 d) ≡ true
        behind [] chain inside = absurd (omega arith)
        behind (z ∷ zs) chain inside = before-trans x y z first (chain 1 d (omega arith))
    rest first (suc k) d inside = chain (suc (suc k)) d (omega arith)

pub rises-chain : (names : List (List ℕ)) → IsChain names → do_names_rise names ≡ true
rises-chain [] chain = refl
rises-chain (x ∷ xs) chain = and_from (list_all (is_before x) xs) (do_names_rise xs) (chain-all x xs chain) (rises-chain xs (λ k d inside. chain (suc k) d (omega arith)))

-- two neighbours out of order
pub rises-not : (names : List (List ℕ)) (k : ℕ) (d : List ℕ) → suc k < length names → is_before (get_or names k d) (get_or names (suc k) d) ≡ false → do_names_rise names ≡ false
rises-not names k d inside out =
    elim (do_names_rise names) as (λ b. do_names_rise names ≡ b → b ≡ false) [
      | true ↦ (λ h. let never : true ≡ false = sym (chain-rises names h k d inside) ∙ out in absurd cc)
      | false ↦ (λ _. refl)
    ] refl

-- Numbers.

-- each number is less than the one behind it, up to one
abbrev pub IsRowTo : List ℕ → ℕ → Type 0
IsRowTo numbers end = (k : ℕ) → suc k < end → get_or numbers k 0 < get_or numbers (suc k) 0

abbrev pub IsRow : List ℕ → Type 0
IsRow numbers = IsRowTo numbers (length numbers)

pub row-rises : (bound : ℕ) (numbers : List ℕ) → do_rise_from bound numbers ≡ true → IsRow numbers
row-rises bound [] h k inside = absurd (omega arith)
row-rises bound (x ∷ []) h k inside = absurd (omega arith)
row-rises bound (x ∷ y ∷ ys) h zero inside =
    let tail = (and_parts (nat_le bound x) (do_rise_from (x + 1) (y ∷ ys)) h).1 in
    let high : x + 1 ≤ y = leb-true (x + 1) y (and_parts (nat_le (x + 1) y) (do_rise_from (y + 1) ys) tail).0 in
    omega arith
row-rises bound (x ∷ y ∷ ys) h (suc k) inside = row-rises (x + 1) (y ∷ ys) (and_parts (nat_le bound x) (do_rise_from (x + 1) (y ∷ ys)) h).1 k (omega arith)

rises-from : (bound : ℕ) (numbers : List ℕ) → (0 < length numbers → bound ≤ get_or numbers 0 0) → IsRow numbers → do_rise_from bound numbers ≡ true
rises-from bound [] low row = refl
rises-from bound (x ∷ xs) low row =
    and_from (nat_le bound x) (do_rise_from (x + 1) xs) (le-leb bound x (low (omega arith)))
    (rises-from (x + 1) xs (λ some. let more : x < get_or xs 0 0 = row 0 (omega arith) in omega arith) (λ k inside. row (suc k) (omega arith)))

pub rises-row : (numbers : List ℕ) → IsRow numbers → do_rise_from 0 numbers ≡ true
rises-row numbers row = rises-from 0 numbers (λ some. omega arith) row

pub row-not : (numbers : List ℕ) (k : ℕ) → suc k < length numbers → get_or numbers (suc k) 0 ≤ get_or numbers k 0 → do_rise_from 0 numbers ≡ false
row-not numbers k inside out =
    elim (do_rise_from 0 numbers) as (λ b. do_rise_from 0 numbers ≡ b → b ≡ false) [
      | true ↦ (λ h. let less : get_or numbers k 0 < get_or numbers (suc k) 0 = row-rises 0 numbers h k inside in absurd (omega arith))
      | false ↦ (λ _. refl)
    ] refl

-- Neighbours as a loop compares them.

get-any : {X : Type 0} (xs : List X) (i : ℕ) (d e : X) → i < length xs → get_or xs i d ≡ get_or xs i e
get-any [] i d e inside = absurd (omega arith)
get-any (x ∷ xs) zero d e inside = refl
get-any (x ∷ xs) (suc i) d e inside = get-any xs i d e (omega arith)

-- what was read at an index, whatever stands for what is missing
read : {X : Type 0} (xs : List X) (i j : ℕ) (x d : X) → j < length xs → i ≡ j → x ≡ get_or xs i x → get_or xs j d ≡ x
read xs i j x d inside same is = get-any xs j d x inside ∙ ap (λ (k : ℕ). get_or xs k x) (sym same) ∙ sym is

module _ (names : List (List ℕ)) (i : ℕ) (x y : List ℕ) (some : 1 ≤ i) (inside : i < length names) (left : x ≡ get_or names (i - 1) x) (right : y ≡ get_or names i y) where
  neighbours : (k : ℕ) (d : List ℕ) → suc k ≡ i → is_before (get_or names k d) (get_or names (suc k) d) ≡ is_before x y
  neighbours k d here =
      ap (λ (z : List ℕ). is_before z (get_or names (suc k) d)) (read names (i - 1) k x d (omega arith) (omega arith) left)
      ∙ ap (is_before x) (read names i (suc k) y d (omega arith) (sym here) right)

  pub chain-more : is_before x y ≡ true → IsChainTo names i → IsChainTo names (i + 1)
  chain-more before chain k d low = elim (cases_lt (suc k) i) [
    | inl less ↦ chain k d less
    | inr last ↦ neighbours k d (omega arith) ∙ before
  ]

  pub chain-breaks : is_before x y ≡ false → do_names_rise names ≡ false
  chain-breaks out = rises-not names (i - 1) [] (omega arith) (neighbours (i - 1) [] (omega arith) ∙ out)

module _ (numbers : List ℕ) (i x y : ℕ) (some : 1 ≤ i) (inside : i < length numbers) (left : x ≡ get_or numbers (i - 1) x) (right : y ≡ get_or numbers i y) where
  pub row-more : is_le (nat_cmp y x) ≡ false → IsRowTo numbers i → IsRowTo numbers (i + 1)
  row-more over row k low = elim (cases_lt (suc k) i) [
    | inl less ↦ row k less
    | inr last ↦
        (let one : get_or numbers k 0 ≡ x = read numbers (i - 1) k x 0 (omega arith) (omega arith) left in
        let next : get_or numbers (suc k) 0 ≡ y = read numbers i (suc k) y 0 (omega arith) (omega arith) right in
        let less : x < y = not-le-told y x over in
        omega arith)
  ]

  pub row-breaks : is_le (nat_cmp y x) ≡ true → do_rise_from 0 numbers ≡ false
  row-breaks under =
      let one : get_or numbers (i - 1) 0 ≡ x = read numbers (i - 1) (i - 1) x 0 (omega arith) refl left in
      let next : get_or numbers (suc (i - 1)) 0 ≡ y = read numbers i (suc (i - 1)) y 0 (omega arith) (omega arith) right in
      let less : y ≤ x = le-told y x under in
      row-not numbers (i - 1) (omega arith) (omega arith)
