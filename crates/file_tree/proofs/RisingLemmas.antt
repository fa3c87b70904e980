-- Lists of numbers that rise.
use Rattle.std.proofs.Common.{◌≡◌, ℕ, ◌+◌, ◌<◌, Bool, true, false, List, [], ◌∷◌, refl, ap, sym, ◌∙◌, arith, inl, inr, eq-eqb, ne_eqb}
use Rattle.std.specs.Prelude.{◌||◌}
use Rattle.std.proofs.lemmas.Bool.{cases_lt, cases_order}
use Rattle.hac_model.specs.Tree.Links.{has}
use Rattle.hac_model.specs.Tree.Valid.{RiseFrom}

pub has-first : (n : ℕ) (ns : List ℕ) → has (n ∷ ns) n ≡ true
has-first n ns = ap (λ (b : Bool). b || has ns n) (eq-eqb n n refl)

-- none is below the bound
pub has-low : (bound : ℕ) (ns : List ℕ) (k : ℕ) → RiseFrom bound ns → k < bound → has ns k ≡ false
has-low bound [] k rise less = refl
has-low bound (n ∷ ns) k rise less =
    let above : k < n = omega (arith, less, rise.0) in
    ap (λ (b : Bool). b || has ns k) (ne_eqb n k (λ same. omega (arith, above, same))) ∙ has-low (n + 1) ns k rise.1 (omega (arith, above))

-- two lists of numbers that rise are one, where they have the same numbers
pub rising-one : (low high : ℕ) (ms ns : List ℕ) → RiseFrom low ms → RiseFrom high ns → ((k : ℕ) → has ms k ≡ has ns k) → ms ≡ ns
rising-one low high [] [] h k same = refl
rising-one low high [] (n ∷ ns) h k same = absurd (let none : false ≡ true = same n ∙ has-first n ns in cc)
rising-one low high (m ∷ ms) [] h k same = absurd (let none : true ≡ false = sym (has-first m ms) ∙ same m in cc)
rising-one low high (m ∷ ms) (n ∷ ns) h k same =
    elim (cases_order m n) [
      | inl is ↦ (λ i. is i ∷ rising-one (m + 1) (n + 1) ms ns h.1 k.1 (rest is) i)
      | inr (inl less) ↦ absurd (let none : true ≡ false = sym (has-first m ms) ∙ same m ∙ has-low n (n ∷ ns) m (omega arith, k.1) less in cc)
      | inr (inr more) ↦ absurd (let none : true ≡ false = sym (has-first n ns) ∙ sym (same n) ∙ has-low m (m ∷ ms) n (omega arith, h.1) more in cc)
    ]
  where
    rest : m ≡ n → (x : ℕ) → has ms x ≡ has ns x
    rest is x = elim (cases_lt m x) [
      | inl above ↦
          sym (ap (λ (b : Bool). b || has ms x) (ne_eqb m x (λ other. omega (arith, above, other))))
          ∙ same x
          ∙ ap (λ (b : Bool). b || has ns x) (ne_eqb n x (λ other. omega (arith, above, is, other)))
      | inr low ↦ has-low (m + 1) ms x h.1 (omega (arith, low)) ∙ sym (has-low (n + 1) ns x k.1 (omega (arith, low, is)))
    ]
