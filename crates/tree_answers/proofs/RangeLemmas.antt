-- Numbers one after the other, and those of entries among them.
use Rattle.std.proofs.Common.{◌≡◌, ℕ, ◌+◌, ◌<◌, Bool, true, false, cond, List, [], ◌∷◌, ◌++◌, refl, ap, sym, ◌∙◌, arith, inl, inr}
use Rattle.std.specs.Prelude.{◌&&◌, Option, Some, None, filter, is_some, sum_by}
use Rattle.std.specs.List.{flat_map, range_with_len}
use Rattle.std.proofs.lemmas.Grind.{flat_map-append}
use Rattle.std.proofs.lemmas.List.{append-nil}
use Rattle.std.proofs.lemmas.List.Concat.{flat_map-cons}
use Rattle.std.proofs.lemmas.List.Sums.{sum_by-cons}
use Rattle.hac_model.specs.Tree.Links.{has}
use Rattle.hac_model.specs.Tree.{entry_at}
use Rattle.hac_model.specs.Tree.Valid.{NumbersRise}
use Rattle.hac_model.specs.declared.states.Entry.{Entry}
use Rattle.hac_model.proofs.LiveLemmas.{IsEntry}
use Rattle.hac_model.proofs.MarkLemmas.{has-filter, rise-filter}
use Rattle.hac_model.proofs.RangeLemmas.{range-has, range-next, range-rises}
use Rattle.hac_model.proofs.TreeLemmas.{entry_at-below, entry_at-cases}
use Rattle.file_tree.specs.Answers.{numbers_of}
use Rattle.file_tree.proofs.LiveLemmas.{numbers-has, numbers-rise}
use Rattle.file_tree.proofs.RisingLemmas.{rising-one}

-- Numbers one after the other.

-- what is made of one number more comes behind
pub flat_next : {A : Type 0} (f : ℕ → List A) (n : ℕ) → flat_map f (range_with_len 0 (n + 1)) ≡ flat_map f (range_with_len 0 n) ++ f n
flat_next f n =
    ap (flat_map f) (range-next n)
    ∙ flat_map-append f (range_with_len 0 n) (n ∷ [])
    ∙ ap (λ xs. flat_map f (range_with_len 0 n) ++ xs) (flat_map-cons f n [] ∙ append-nil (f n))

-- Those of entries among all numbers below the next.

module _ (es : List Entry) (next : ℕ) (numbers : NumbersRise 0 es next) where
  -- where no others pass, all numbers that pass are the numbers of entries that pass
  pub entries-pass : (p : ℕ → Bool) → ((n : ℕ) → p n ≡ true → IsEntry es n) → filter p (range_with_len 0 next) ≡ filter p (numbers_of es)
  entries-pass p live = rising-one 0 0 (filter p (range_with_len 0 next)) (filter p (numbers_of es))
      (rise-filter p 0 (range_with_len 0 next) (range-rises 0 next))
      (rise-filter p 0 (numbers_of es) (numbers-rise 0 0 es next numbers (omega arith)))
      (λ k. has-filter p (range_with_len 0 next) k ∙ by_test k (p k) refl ∙ sym (has-filter p (numbers_of es) k))
    where
      by_test : (k : ℕ) (b : Bool) → p k ≡ b → (b && has (range_with_len 0 next) k) ≡ (b && has (numbers_of es) k)
      by_test k false fails = refl
      by_test k true passes =
          let found = live k passes in
          let below : k < next = entry_at-below 0 es next k found.0 numbers found.1 in
          range-has 0 next k (omega arith) (omega arith)
          ∙ sym (numbers-has es k ∙ ap (λ (o : Option Entry). is_some o) found.1)

  -- where no others count, a sum over all numbers is that over the numbers of entries
  pub entries-sum : (f : ℕ → ℕ) → ((n : ℕ) → entry_at es n ≡ None → f n ≡ 0) → sum_by f (range_with_len 0 next) ≡ sum_by f (numbers_of es)
  entries-sum f none = sym (counted (range_with_len 0 next)) ∙ ap (sum_by f) (entries-pass (λ n. is_some (entry_at es n)) live) ∙ counted (numbers_of es)
    where
      live : (n : ℕ) → is_some (entry_at es n) ≡ true → IsEntry es n
      live n is = elim (entry_at-cases es n) [
        | inl absent ↦ absurd (let never : false ≡ true = sym (ap (λ (o : Option Entry). is_some o) absent) ∙ is in cc)
        | inr found ↦ found
      ]

      counted : (ns : List ℕ) → sum_by f (filter (λ n. is_some (entry_at es n)) ns) ≡ sum_by f ns
      counted [] = refl
      counted (n ∷ ns) =
          let rest : List ℕ = filter (λ n. is_some (entry_at es n)) ns in
          (elim (entry_at es n) as (λ o. entry_at es n ≡ o → sum_by f (cond (is_some o) (n ∷ rest) rest) ≡ f n + sum_by f ns) [
            | Some e ↦ (λ _. sum_by-cons f n rest ∙ ap (λ (k : ℕ). f n + k) (counted ns))
            | None ↦ (λ absent. omega (arith, counted ns, none n absent))
          ] refl)
          ∙ sym (sum_by-cons f n ns)
