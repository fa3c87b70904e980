-- The numbers that names get.
use Rattle.std.proofs.Common.{◌≡◌, ℕ, zero, suc, ◌+◌, ◌<◌, ◌≤◌, Bool, true, false, cond, List, [], ◌∷◌, ◌++◌, length, map, refl, ap, sym, subst, ◌∙◌, arith, inl, inr}
use Rattle.std.specs.Prelude.{◌⊎◌, ◌||◌, not, is_none, IsTrue, Option, Some, None}
use Rattle.std.specs.List.{AllByRecursion, list_all, list_any}
use Rattle.std.specs.Option.{option_map_or}
use Rattle.std.specs.Str.{bytes_eq}
use Rattle.std.proofs.lemmas.Slice.Eq.{bytes_eq-Decides}
use Rattle.std.proofs.lemmas.Bool.{and_parts, cases_eq}
use Rattle.std.specs.Cmp.Lexicographic.{nat_list_eq_equiv}
use Rattle.hac_model.specs.Tree.Depends.{Among}
use Rattle.hac_model.specs.Tree.Listing.{is_before}
use Rattle.hac_model.specs.Tree.Mounting.{do_names_rise, is_among}
use Rattle.tree_nodes.specs.Documents.{numbers_from, numbers_up, unknown}
use Rattle.tree_nodes.specs.Search.{first_named, NamesRise}
use Rattle.tree_nodes.proofs.OverLemmas.{NamesFollow}

among-first : (x : List ℕ) (xs : List (List ℕ)) → is_among (x ∷ xs) x ≡ true
among-first x xs = ap (λ (b : Bool). b || list_any (bytes_eq x) xs) (nat_list_eq_equiv.refl x)

among-later : (y : List ℕ) (xs : List (List ℕ)) (x : List ℕ) → is_among xs x ≡ true → is_among (y ∷ xs) x ≡ true
among-later y xs x is = elim (bytes_eq x y) as (λ b. (b || list_any (bytes_eq x) xs) ≡ true) [ true ↦ refl | false ↦ is ]

module _ (find : List ℕ → Option ℕ) where
  -- a name that is found gives its number
  pub number-known : (xs : List (List ℕ)) (k : ℕ) (x : List ℕ) (n : ℕ) → is_among xs x ≡ true → find x ≡ Some n → Among (numbers_from find k xs) n
  number-known [] k x n is found = absurd cc
  number-known (y ∷ ys) k x n is found = elim (bytes_eq x y) as (λ b. bytes_eq x y ≡ b → (b || list_any (bytes_eq x) ys) ≡ true → Among (numbers_from find k (y ∷ ys)) n) [
    | true ↦ (λ same is.
        let here : find y ≡ Some n = ap find (sym ((bytes_eq-Decides x y).0 same)) ∙ found in
        subst (λ (o : Option ℕ). Among (option_map_or (λ (m : ℕ). m ∷ numbers_from find k ys) o (k ∷ numbers_from find (k + 1) ys)) n) (sym here) (inl refl))
    | false ↦ (λ other is. elim (find y) as (λ o. Among (option_map_or (λ (m : ℕ). m ∷ numbers_from find k ys) o (k ∷ numbers_from find (k + 1) ys)) n) [
      | Some m ↦ inr (number-known ys k x n is found)
      | None ↦ inr (number-known ys (k + 1) x n is found)
    ])
  ] refl is

  -- and each that isn't takes one
  pub number-new : (xs : List (List ℕ)) (k q : ℕ) → k ≤ q → q < k + length (unknown find xs) → Among (numbers_from find k xs) q
  number-new [] k q high low = absurd (omega arith)
  number-new (x ∷ xs) k q high low = elim (find x) as (λ o. q < k + length (cond (is_none o) (x ∷ unknown find xs) (unknown find xs)) → Among (option_map_or (λ (m : ℕ). m ∷ numbers_from find k xs) o (k ∷ numbers_from find (k + 1) xs)) q) [
    | Some m ↦ (λ low. inr (number-new xs k q high low))
    | None ↦ (λ low. elim (cases_eq k q) [
      | inl same ↦ inl same
      | inr other ↦ inr (number-new xs (k + 1) q (omega arith) (omega arith))
    ])
  ] low

  -- there are no other numbers
  pub number-from : (xs : List (List ℕ)) (k q : ℕ) → Among (numbers_from find k xs) q →
      ((x : List ℕ) × (is_among xs x ≡ true) × (find x ≡ Some q)) ⊎ ((k ≤ q) × (q < k + length (unknown find xs)))
  number-from [] k q among = absurd among
  number-from (x ∷ xs) k q among = elim (find x) as (λ o. find x ≡ o → Among (option_map_or (λ (m : ℕ). m ∷ numbers_from find k xs) o (k ∷ numbers_from find (k + 1) xs)) q → ((y : List ℕ) × (is_among (x ∷ xs) y ≡ true) × (find y ≡ Some q)) ⊎ ((k ≤ q) × (q < k + length (cond (is_none o) (x ∷ unknown find xs) (unknown find xs))))) [
    | Some m ↦ (λ found among. elim among [
      | inl same ↦ inl (x, among-first x xs, found ∙ ap (λ (n : ℕ). Some n) same)
      | inr rest ↦ elim (number-from xs k q rest) [
        | inl known ↦ inl (known.0, among-later x xs known.0 known.1, known.2)
        | inr new ↦ inr new
      ]
    ])
    | None ↦ (λ found among. elim among [
      | inl same ↦ inr (omega arith, omega arith)
      | inr rest ↦ elim (number-from xs (k + 1) q rest) [
        | inl known ↦ inl (known.0, among-later x xs known.0 known.1, known.2)
        | inr new ↦ (let high = new.0 in let low = new.1 in inr (omega arith, omega arith))
      ]
    ])
  ] refl among

  -- they have the names
  pub number-names : (names : ℕ → List ℕ) (xs : List (List ℕ)) (k : ℕ) → ((x : List ℕ) (n : ℕ) → is_among xs x ≡ true → find x ≡ Some n → names n ≡ x) → NamesFollow names k (unknown find xs) → map names (numbers_from find k xs) ≡ xs
  number-names names [] k known follow = refl
  number-names names (x ∷ xs) k known follow = elim (find x) as (λ o. find x ≡ o → NamesFollow names k (cond (is_none o) (x ∷ unknown find xs) (unknown find xs)) → map names (option_map_or (λ (m : ℕ). m ∷ numbers_from find k xs) o (k ∷ numbers_from find (k + 1) xs)) ≡ x ∷ xs) [
    | Some m ↦ (λ found follow.
        ap (λ (y : List ℕ). y ∷ map names (numbers_from find k xs)) (known x m (among-first x xs) found)
        ∙ ap (λ (ys : List (List ℕ)). x ∷ ys) (number-names names xs k (λ y n is. known y n (among-later x xs y is)) follow))
    | None ↦ (λ found follow.
        ap (λ (y : List ℕ). y ∷ map names (numbers_from find (k + 1) xs)) follow.0
        ∙ ap (λ (ys : List (List ℕ)). x ∷ ys) (number-names names xs (k + 1) (λ y n is. known y n (among-later x xs y is)) follow.1))
  ] refl follow

-- where nothing is found, they are so many numbers
pub numbers-none : (xs : List (List ℕ)) (k : ℕ) → numbers_from (λ x. None) k xs ≡ numbers_up k (length xs)
numbers-none [] k = refl
numbers-none (x ∷ xs) k = ap (λ (ns : List ℕ). k ∷ ns) (numbers-none xs (k + 1)) ∙ sym (first k (length xs))
  where
    first : (k n : ℕ) → numbers_up k (suc n) ≡ k ∷ numbers_up (k + 1) n
    first k zero = let same : k + 0 ≡ k = omega arith in ap (λ (m : ℕ). m ∷ []) same
    first k (suc n) =
        let same : k + suc n ≡ k + 1 + n = omega arith in
        ap (λ (m : ℕ). numbers_up k (suc n) ++ m ∷ []) same ∙ ap (λ (ns : List ℕ). ns ++ (k + 1 + n) ∷ []) (first k n)

pub unknown-none : (xs : List (List ℕ)) → unknown (λ x. None) xs ≡ xs
unknown-none [] = refl
unknown-none (x ∷ xs) = ap (λ (ys : List (List ℕ)). x ∷ ys) (unknown-none xs)

-- Names of numbers.

module _ (names : ℕ → List ℕ) where
  all-before : (x : List ℕ) (ns : List ℕ) → list_all (is_before x) (map names ns) ≡ true → AllByRecursion (λ m. IsTrue (is_before x (names m))) ns
  all-before x [] is = tt
  all-before x (n ∷ ns) is = let parts = and_parts (is_before x (names n)) (list_all (is_before x) (map names ns)) is in (parts.0, all-before x ns parts.1)

  pub names-rise : (ns : List ℕ) → do_names_rise (map names ns) ≡ true → NamesRise names ns
  names-rise [] is = tt
  names-rise (n ∷ ns) is = let parts = and_parts (list_all (is_before (names n)) (map names ns)) (do_names_rise (map names ns)) is in (all-before (names n) ns parts.0, names-rise ns parts.1)

  -- a name is found that is among theirs
  pub found-map : (ns : List ℕ) (x : List ℕ) → is_none (first_named names ns x) ≡ not (is_among (map names ns) x)
  found-map [] x = refl
  found-map (n ∷ ns) x =
      ap (λ (b : Bool). is_none (cond b (Some n) (first_named names ns x))) (nat_list_eq_equiv.symm (names n) x)
      ∙ (elim (bytes_eq x (names n)) as (λ b. is_none (cond b (Some n) (first_named names ns x)) ≡ not (b || list_any (bytes_eq x) (map names ns))) [ true ↦ refl | false ↦ found-map ns x ])
