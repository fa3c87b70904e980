-- Any sorted list of the same entries is the one in order of paths: what a sort of std gives.
use Rattle.std.proofs.Common.{◌≡◌, ◌⊎◌, ℕ, suc, ◌+◌, Bool, true, false, cond, List, [], ◌∷◌, subst, refl, ap, sym, ◌∙◌, arith, inl, inr, eq-eqb}
use Rattle.std.specs.Prelude.{◌==◌, sum_by, Some, Result, Ok}
use Rattle.std.specs.List.{AllByRecursion, slice_index_or}
use Rattle.std.specs.List.Sorted.{IsPermutation, IsSortedBy}
use Rattle.std.specs.Str.{bytes_eq}
use Rattle.std.proofs.lemmas.Bool.{eqb-true}
use Rattle.std.proofs.lemmas.List.Sorted.{sum_by-IsPermutation}
use Rattle.std.proofs.lemmas.List.Sums.{sum_by-cons}
use Rattle.std.proofs.lemmas.Slice.Eq.{bytes_eq-Decides}
use Rattle.hac_model.specs.Script.PathWords.{word_of}
use Rattle.hac_model.specs.Tree.Listing.{is_before}
use Rattle.hac_model.specs.Tree.Paths.{are_names, path_text}
use Rattle.hac_model.specs.Tree.{entry_at, path_of}
use Rattle.hac_model.specs.Tree.Valid.{IsLayout}
use Rattle.hac_model.specs.declared.paths.PathWord.{PathWord}
use Rattle.hac_model.specs.declared.replies.Refusal.{Refusal}
use Rattle.hac_model.specs.declared.states.Entry.{Entry}
use Rattle.hac_model.specs.declared.states.State.{State}
use Rattle.hac_model.proofs.LookLemmas.{path-named}
use Rattle.hac_model.proofs.NameOrderLemmas.{before-other, before-trans}
use Rattle.hac_model.proofs.PathLemmas.{path_of-one}
use Rattle.hac_model.proofs.TreeLemmas.{entry_at-all, entry_at-number}
use Rattle.hac_names.proofs.Printed.{printed_path}
use Rattle.hac_model.specs.Script.Dump.{by_path, is_path_before}
use Rattle.hac_dump.proofs.SortLemmas.{Sorted, all-sorted, number-found, of_number, sorted, sorted-sum}

-- a printed path is that of one path
text-one : (p q : List (List ℕ)) → are_names p ≡ true → are_names q ≡ true → path_text p ≡ path_text q → p ≡ q
text-one p q named other same = names (sym (printed_path p named) ∙ ap word_of same ∙ printed_path q other)
  where
    names : (let one : Result PathWord Refusal = Ok (record { absolute = true; ups = 0; names = p }) in one) ≡ Ok (record { absolute = true; ups = 0; names = q }) → p ≡ q
    names even = let words : record { absolute = true; ups = 0; names = p } ≡ record { absolute = true; ups = 0; names = q } = cc in ap (λ (w : PathWord). w.names) words

module _ (s : State) (h : IsLayout s) where
  abbrev IsThere : Entry → Type 0
  IsThere e = entry_at s.entries e.number ≡ Some e

  abbrev text_of : Entry → List ℕ
  text_of e = path_text (path_of s e.number)

  -- of two entries of the tree one comes first
  one-first : (x y : Entry) → IsThere x → IsThere y → is_path_before s x y ≡ false → is_path_before s y x ≡ false → x ≡ y
  one-first x y here there not-x none = at (bytes_eq (text_of x) (text_of y)) refl
    where
      at : (b : Bool) → bytes_eq (text_of x) (text_of y) ≡ b → x ≡ y
      at false differ = let never : true ≡ false = sym (before-other (text_of x) (text_of y) not-x differ) ∙ none in absurd cc
      at true same =
          let paths : path_of s x.number ≡ path_of s y.number = text-one (path_of s x.number) (path_of s y.number) (path-named s x.number h (inr (x, here))) (path-named s y.number h (inr (y, there))) ((bytes_eq-Decides (text_of x) (text_of y)).0 same) in
          let number : x.number ≡ y.number = path_of-one s x.number y.number h (inr (x, here)) (inr (y, there)) paths in
          let both : Some x ≡ Some y = sym here ∙ ap (entry_at s.entries) number ∙ there in cc

  -- two sorted lists of the same entries are one
  pub one-order : (xs ys : List Entry) → AllByRecursion IsThere xs → AllByRecursion IsThere ys → Sorted s xs → Sorted s ys → ((f : Entry → ℕ) → sum_by f xs ≡ sum_by f ys) → xs ≡ ys
  one-order [] [] a b p q same = refl
  one-order [] (y ∷ ys) a b p q same = let one : sum_by (λ (e : Entry). 1) [] ≡ sum_by (λ (e : Entry). 1) (y ∷ ys) = same (λ e. 1) in absurd (omega (arith, one, sum_by-cons (λ (e : Entry). 1) y ys))
  one-order (x ∷ xs) [] a b p q same = let one : sum_by (λ (e : Entry). 1) (x ∷ xs) ≡ sum_by (λ (e : Entry). 1) [] = same (λ e. 1) in absurd (omega (arith, one, sum_by-cons (λ (e : Entry). 1) x xs))
  one-order (x ∷ xs) (y ∷ ys) a b p q same =
      let first = head (other x xs y ys (λ f. sym (same f)) a b p) (other y ys x xs same b a q) in
      λ i. first i ∷ one-order xs ys a.1 b.1 p.1 q.1 (tail first) i
    where
      -- the head of the one list is in the other one: it is its head, or not before that
      other : (x : Entry) (xs : List Entry) (y : Entry) (ys : List Entry) → ((f : Entry → ℕ) → sum_by f (y ∷ ys) ≡ sum_by f (x ∷ xs)) → AllByRecursion IsThere (x ∷ xs) → AllByRecursion IsThere (y ∷ ys) → Sorted s (x ∷ xs) → (x ≡ y) ⊎ (is_path_before s y x ≡ false)
      other x xs y ys same a b p = at found.0 found.1 (entry_at-all IsThere (x ∷ xs) y.number found.0 a found.1)
        where
          found : (e : Entry) × (entry_at (x ∷ xs) y.number ≡ Some e)
          found = number-found (x ∷ xs) y.number (
              let all = same (of_number y.number) in
              let one : of_number y.number y ≡ 1 = ap (λ (b : Bool). cond {A = ℕ} b 1 0) (eq-eqb y.number y.number refl) in
              omega (arith, all, one, sum_by-cons (of_number y.number) y ys))

          at : (e : Entry) → entry_at (x ∷ xs) y.number ≡ Some e → IsThere e → (x ≡ y) ⊎ (is_path_before s y x ≡ false)
          at e is there = elim (x.number == y.number) as (λ b. (x.number == y.number) ≡ b → cond b (Some x) (entry_at xs y.number) ≡ Some e → (x ≡ y) ⊎ (is_path_before s y x ≡ false)) [
            | true ↦ (λ here _. inl (let both : Some x ≡ Some y = sym a.0 ∙ ap (entry_at s.entries) (eqb-true x.number y.number here) ∙ b.0 in cc))
            | false ↦ (λ _ later.
                let number : e.number ≡ y.number = entry_at-number xs y.number e later in
                let same : e ≡ y = (let both : Some e ≡ Some y = sym there ∙ ap (entry_at s.entries) number ∙ b.0 in cc) in
                inr (subst (λ (f : Entry). is_path_before s f x ≡ false) same (entry_at-all (λ f. is_path_before s f x ≡ false) xs y.number e p.0 later)))
          ] refl is

      head : (x ≡ y) ⊎ (is_path_before s y x ≡ false) → (y ≡ x) ⊎ (is_path_before s x y ≡ false) → x ≡ y
      head (inl is) _ = is
      head (inr not-y) (inl is) = sym is
      head (inr not-y) (inr none) = one-first x y a.0 b.0 none not-y

      tail : x ≡ y → (f : Entry → ℕ) → sum_by f xs ≡ sum_by f ys
      tail first f = let all = same f in let heads : f x ≡ f y = ap f first in omega (arith, all, heads, sum_by-cons f x xs, sum_by-cons f y ys)

  -- what is before neither of two that are in order
  before-none : (x y z : Entry) → is_path_before s y x ≡ false → is_path_before s z y ≡ false → is_path_before s z x ≡ false
  before-none x y z not-y none = at (is_path_before s z x) refl
    where
      at : (b : Bool) → is_path_before s z x ≡ b → b ≡ false
      at false is = refl
      at true is = by (bytes_eq (text_of y) (text_of x)) refl
        where
          by : (b : Bool) → bytes_eq (text_of y) (text_of x) ≡ b → true ≡ false
          by true same = sym (ap (is_before (text_of z)) ((bytes_eq-Decides (text_of y) (text_of x)).0 same) ∙ is) ∙ none
          by false differ = sym (before-trans (text_of z) (text_of x) (text_of y) is (before-other (text_of y) (text_of x) not-y differ)) ∙ none

  -- neighbours in order are enough
  pub neighbours : (ys : List Entry) → IsSortedBy (is_path_before s) ys → Sorted s ys
  neighbours [] next = tt
  neighbours (y ∷ []) next = (tt, tt)
  neighbours (y ∷ z ∷ ys) next =
      let rest = neighbours (z ∷ ys) (λ k d low high. subst (λ (j : ℕ). is_path_before s (slice_index_or (y ∷ z ∷ ys) j d) (slice_index_or (z ∷ ys) k d) ≡ false) {x = suc k + 1} {y = suc (k + 1)} (omega arith) (next (suc k) d (omega arith) (omega (arith, high)))) in
      let first : is_path_before s z y ≡ false = next 0 y (omega arith) (omega arith) in
      ((first, each ys first rest.0), rest)
    where
      each : (fs : List Entry) → is_path_before s z y ≡ false → AllByRecursion (λ f. is_path_before s f z ≡ false) fs → AllByRecursion (λ f. is_path_before s f y ≡ false) fs
      each [] first h = tt
      each (f ∷ fs) first h = (before-none y z f first h.0, each fs first h.1)

  -- so what a sort gives of entries of the tree is their list in order of paths
  pub sort-is : (xs ys : List Entry) → AllByRecursion IsThere xs → AllByRecursion IsThere ys → IsPermutation xs ys → IsSortedBy (is_path_before s) ys → ys ≡ by_path s xs
  sort-is xs ys a b same order =
      one-order ys (by_path s xs) b (all-sorted s IsThere xs a) (neighbours ys order) (sorted s xs) (λ f. sum_by-IsPermutation f xs ys same ∙ sym (sorted-sum s f xs))
