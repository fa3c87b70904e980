-- A walk over all numbers that stops at those of entries alone.
use Rattle.std.proofs.Common.{◌≡◌, ℕ, zero, suc, ◌+◌, ◌<◌, ◌≤◌, Bool, true, false, cond, List, [], ◌∷◌, subst, refl, ap, sym, ◌∙◌, arith, inl, inr}
use Rattle.std.specs.Prelude.{◌==◌, ◌||◌, Option, Some, None, is_some}
use Rattle.std.proofs.lemmas.Bool.{cases_lt, ne_eqb}
use Rattle.hac_model.specs.Tree.Links.{has}
use Rattle.hac_model.specs.Tree.{entry_at}
use Rattle.hac_model.specs.Tree.Valid.{NumbersRise, RiseFrom}
use Rattle.hac_model.specs.declared.states.Entry.{Entry}
use Rattle.hac_model.proofs.TreeLemmas.{entry_at-next}
use Rattle.file_tree.specs.Answers.{numbers_of}
use Rattle.file_tree.proofs.RisingLemmas.{has-first, has-low}
use Rattle.hac_model.proofs.MarkLemmas.{rise-lower}

-- the numbers of entries rise
pub numbers-rise : (bound above : ℕ) (es : List Entry) (next : ℕ) → NumbersRise above es next → bound ≤ above + 1 → RiseFrom bound (numbers_of es)
numbers-rise bound above [] next h low = tt
numbers-rise bound above (e ∷ es) next h low =
    let first : above < e.number = h.0 in
    (omega arith, numbers-rise (e.number + 1) e.number es next h.1 (omega arith))

-- they are those under which an entry is found
pub numbers-has : (es : List Entry) (n : ℕ) → has (numbers_of es) n ≡ is_some (entry_at es n)
numbers-has [] n = refl
numbers-has (e ∷ es) n = elim (e.number == n) as (λ b. (b || has (numbers_of es) n) ≡ is_some (cond b (Some e) (entry_at es n))) [ true ↦ refl | false ↦ numbers-has es n ]

-- where a walk stands that has these numbers before it: at the first of them, or at the end
abbrev pub stand : List ℕ → ℕ → ℕ
stand [] next = next
stand (n ∷ left) next = n

-- the walk has passed all numbers but those of the entries that are left: this holds where it stands
pub record IsThrough (P : ℕ → Type 0) (es : List Entry) (next : ℕ) (left : List ℕ) : Type 0 where
  pub here : P (stand left next)
  pub rise : RiseFrom 0 left
  pub are : (k : ℕ) → stand left next ≤ k → has left k ≡ is_some (entry_at es k)

nothing : (o : Option Entry) → is_some o ≡ false → o ≡ None
nothing None is = refl
nothing (Some e) is = absurd cc

rise-stand : (left : List ℕ) (next : ℕ) → RiseFrom 0 left → RiseFrom (stand left next) left
rise-stand [] next rise = tt
rise-stand (n ∷ left) next rise = (omega arith, rise.1)

module _ (P : ℕ → Type 0) (es : List Entry) (next : ℕ) where
  pub through-here : (ns : List ℕ) (n : ℕ) (left : List ℕ) → ns ≡ n ∷ left → IsThrough P es next ns → P n
  through-here ns n left is t = (subst (λ (xs : List ℕ). IsThrough P es next xs) is t).here

  pub through-ends : (ns : List ℕ) → ns ≡ [] → IsThrough P es next ns → P next
  through-ends ns is t = (subst (λ (xs : List ℕ). IsThrough P es next xs) is t).here

  -- the first number that is left is an entry's
  pub through-live : (ns : List ℕ) (n : ℕ) (left : List ℕ) → ns ≡ n ∷ left → IsThrough P es next ns → is_some (entry_at es n) ≡ true
  through-live ns n left is t =
      let whole = subst (λ (xs : List ℕ). IsThrough P es next xs) is t in
      sym (whole.are n (omega arith)) ∙ has-first n left

  pub through-below : NumbersRise 0 es next → (ns : List ℕ) (n : ℕ) (left : List ℕ) → ns ≡ n ∷ left → IsThrough P es next ns → n < next
  through-below numbers ns n left is t = elim (cases_lt n next) [
    | inl less ↦ less
    | inr more ↦ (let never : true ≡ false = sym (through-live ns n left is t) ∙ ap (λ (o : Option Entry). is_some o) (entry_at-next 0 es next n numbers more) in absurd cc)
  ]

-- what holds at a number holds at the next one, if no entry has it
module _ (P : ℕ → Type 0) (es : List Entry) (next : ℕ) (numbers : NumbersRise 0 es next) (pass : (k : ℕ) → entry_at es k ≡ None → P k → P (k + 1)) where
  walk : (from to : ℕ) → from ≤ to → ((k : ℕ) → from ≤ k → k < to → entry_at es k ≡ None) → P from → P to
  walk from zero low none p = subst P {x = from} {y = zero} (omega arith) p
  walk from (suc to) low none p = elim (cases_lt to from) [
    | inl less ↦ subst P {x = from} {y = suc to} (omega arith) p
    | inr more ↦ subst P {x = to + 1} {y = suc to} (omega arith) (pass to (none to more (omega arith)) (walk from to more (λ k up down. none k up (omega arith)) p))
  ]

  -- nothing is passed yet
  pub through-begins : (ns : List ℕ) → ns ≡ numbers_of es → P 0 → IsThrough P es next ns
  through-begins ns same p = record {
    here = walk 0 (stand ns next) (omega arith) (λ k up down. nothing (entry_at es k) (sym (has-told k) ∙ has-low (stand ns next) ns k (rise-stand ns next rise) down)) p;
    rise = rise;
    are = λ k up. has-told k;
  }
    where
      has-told : (k : ℕ) → has ns k ≡ is_some (entry_at es k)
      has-told k = ap (λ (xs : List ℕ). has xs k) same ∙ numbers-has es k

      rise : RiseFrom 0 ns
      rise = subst (λ (xs : List ℕ). RiseFrom 0 xs) (sym same) (numbers-rise 0 0 es next numbers (omega arith))

  -- one more number is passed. What held before may say less of it.
  pub through-goes : (Q : ℕ → Type 0) (ns : List ℕ) (n : ℕ) (left : List ℕ) → ns ≡ n ∷ left → IsThrough Q es next ns → P (n + 1) → IsThrough P es next left
  through-goes Q ns n left is whole p = record {
    here = walk (n + 1) (stand left next) (ahead left t) (λ k up down. nothing (entry_at es k) (sym (t.are k (omega arith)) ∙ ap (λ (b : Bool). b || has left k) (ne_eqb n k (λ same. omega arith)) ∙ has-low (stand left next) left k (rise-stand left next rise) down)) p;
    rise = rise;
    are = λ k up. (let above : n + 1 ≤ stand left next = ahead left t in sym (ap (λ (b : Bool). b || has left k) (ne_eqb n k (λ same. omega arith))) ∙ t.are k (omega arith));
  }
    where
      t : IsThrough Q es next (n ∷ left)
      t = subst (λ (xs : List ℕ). IsThrough Q es next xs) is whole

      rise : RiseFrom 0 left
      rise = rise-lower 0 (n + 1) left (omega arith) t.rise.1

      ahead : (left : List ℕ) → IsThrough Q es next (n ∷ left) → n + 1 ≤ stand left next
      ahead [] t = (let less : n < next = through-below Q es next numbers (n ∷ []) n [] refl t in omega arith)
      ahead (m ∷ ms) t = t.rise.1.0
