-- Numbers that are added to others, and numbers in order.
use Rattle.std.proofs.Common.{◌≡◌, ℕ, suc, Bool, true, false, cond, List, [], ◌∷◌, eqb, refl, ap, subst, sym, ◌∙◌, arith}
use Rattle.std.specs.Prelude.{◌==◌, ◌||◌, IsPermutation, IsSorted}
use Rattle.std.specs.List.{dedup, dedup_from}
use Rattle.std.specs.List.Retain.{DiffersFromLast, IsFiltered}
use Rattle.std.specs.Ordering.{nat_cmp}
use Rattle.std.proofs.lemmas.Bool.{eq-eqb, eqb-true}
use Rattle.std.proofs.lemmas.List.Filters.{dedup_is}
use Rattle.std.proofs.lemmas.List.Sorted.{list_any-IsPermutation}
use Rattle.std.proofs.lemmas.Map.Keys.{IsStrictlyIncreasing-dedup}
use Rattle.hac_model.specs.Tree.Links.{has}
use Rattle.hac_model.specs.Tree.Valid.{RiseFrom}
use Rattle.query_index.specs.Numbers.{AddsAll}
use Rattle.query_index.proofs.ListLemmas.{or-assoc}
use Rattle.hac_model.proofs.SortedLemmas.{steps-rise}
use Rattle.hac_model.proofs.BoolLemmas.{agree, or-false}

pub eqb-suc : (a b : ℕ) → (suc a == suc b) ≡ (a == b)
eqb-suc a b = agree (suc a == suc b) (a == b) (λ is. eq-eqb a b (omega (arith, eqb-true (suc a) (suc b) is))) (λ is. eq-eqb (suc a) (suc b) (omega (arith, eqb-true a b is)))

-- Numbers that are added.

pub adds-none : (ns : List ℕ) → AddsAll ns ns (λ _. false)
adds-none ns n = sym (or-false (has ns n))

pub adds-alike : (old new : List ℕ) (p q : ℕ → Bool) → AddsAll old new p → ((n : ℕ) → p n ≡ q n) → AddsAll old new q
adds-alike old new p q adds same n = adds n ∙ ap (λ (b : Bool). has old n || b) (same n)

pub adds-both : (old mid new : List ℕ) (p q : ℕ → Bool) → AddsAll old mid p → AddsAll mid new q → AddsAll old new (λ n. p n || q n)
adds-both old mid new p q first second n = second n ∙ ap (λ (b : Bool). b || q n) (first n) ∙ or-assoc (has old n) (p n) (q n)

-- Numbers in order.

once : (b c : Bool) → (b ≡ true → c ≡ true) → c ≡ (b || c)
once true c same = same refl
once false c same = refl

kept : (k : ℕ) (ns : List ℕ) (n : ℕ) → has (dedup_from eqb k ns) n ≡ has (k ∷ ns) n
kept k [] n = refl
kept k (x ∷ ns) n = of (eqb x k) refl (kept k ns n) (kept x ns n)
  where
    again : (b c d : Bool) → b ≡ c → (b || d) ≡ (b || (c || d))
    again true c d same = refl
    again false true d same = absurd (let h : false ≡ true = same in cc)
    again false false d same = refl

    of : (b : Bool) → eqb x k ≡ b → has (dedup_from eqb k ns) n ≡ has (k ∷ ns) n → has (dedup_from eqb x ns) n ≡ has (x ∷ ns) n → has (cond b (dedup_from eqb k ns) (k ∷ dedup_from eqb x ns)) n ≡ has (k ∷ x ∷ ns) n
    of true is first second = first ∙ again (k == n) (x == n) (has ns n) (ap (λ (m : ℕ). m == n) (sym (eqb-true x k is)))
    of false is first second = ap (λ (b : Bool). (k == n) || b) second

pub has-dedup : (ns : List ℕ) (n : ℕ) → has (dedup eqb ns) n ≡ has ns n
has-dedup [] n = refl
has-dedup (k ∷ ns) n = kept k ns n

module _ (old sorted new : List ℕ) (same : IsPermutation old sorted) (order : IsSorted nat_cmp sorted) (left : IsFiltered (DiffersFromLast eqb) [] sorted new) where
  pub ordered-rise : RiseFrom 0 new
  ordered-rise = subst (λ (ns : List ℕ). RiseFrom 0 ns) (sym (dedup_is eqb sorted new left))
      (steps-rise 0 (dedup eqb sorted) (λ n more is. omega arith) (IsStrictlyIncreasing-dedup sorted order))

  pub ordered-same : (n : ℕ) → has new n ≡ has old n
  ordered-same n =
      ap (λ (ns : List ℕ). has ns n) (dedup_is eqb sorted new left)
      ∙ has-dedup sorted n
      ∙ sym (list_any-IsPermutation (λ x. x == n) old sorted same)
