-- Links that say of each item what those of a state do are those of the state.
use Rattle.std.proofs.Common.{◌≡◌, ℕ, zero, suc, ◌+◌, ◌<◌, Bool, true, false, List, [], ◌∷◌, refl, ap, sym, ◌∙◌, subst, arith, eq-eqb, inl, inr}
use Rattle.std.specs.Prelude.{◌||◌, ◌==◌}
use Rattle.std.specs.List.{range_with_len}
use Rattle.std.proofs.lemmas.Bool.{cases_order, eqb-true}
use Rattle.std.proofs.lemmas.Map.Keys.{sorted_from_strictly_increasing}
use Rattle.hac_model.specs.Tree.Links.{has, is_item, items, links, transient_at}
use Rattle.hac_model.specs.Tree.Valid.{IsValid}
use Rattle.hac_model.specs.declared.states.State.{State}
use Rattle.hac_model.proofs.ListedLemmas.{found-listed, lent-listed}
use Rattle.link_kinds.specs.Kinds.{Lists}
use Rattle.link_kinds.specs.Seen.{IsEmpty, Known, LinkListsRise, SameKinds, lent_in, transient_in}
use Rattle.link_kinds.proofs.PutLemmas.{sorted-rise}
use Rattle.set_pool.specs.Rising.{AllAbove, Rises, is_among}
use Rattle.set_pool.proofs.RisingLemmas.{is_among-above, rises-filter}
use Rattle.reeval.specs.Judging.{no_verdict, verdict_of}
use Rattle.reeval.specs.Settled.{AreLinksOf, verdict_in}
use Rattle.reeval.specs.declared.verdicts.Verdict.{Verdict}
use Rattle.hac_model.proofs.AmongLemmas.{eqb-turned}

-- lists that rise are told by who is among their numbers
above-more : (x y : ℕ) (ys : List ℕ) → x < y → AllAbove y ys → AllAbove x ys
above-more x y [] less above = tt
above-more x y (z ∷ ys) less above = (let more : y < z = above.0 in omega arith, above-more x y ys less above.1)

first-among : (x : ℕ) (xs : List ℕ) → is_among x (x ∷ xs) ≡ true
first-among x xs = ap (λ (b : Bool). b || is_among x xs) (eq-eqb x x refl)

pub same-rising : (xs ys : List ℕ) → Rises xs → Rises ys → ((n : ℕ) → is_among n xs ≡ is_among n ys) → xs ≡ ys
same-rising [] [] up climb same = refl
same-rising [] (y ∷ ys) up climb same = absurd (let never : false ≡ true = same y ∙ first-among y ys in cc)
same-rising (x ∷ xs) [] up climb same = absurd (let never : true ≡ false = sym (first-among x xs) ∙ same x in cc)
same-rising (x ∷ xs) (y ∷ ys) up climb same = elim (cases_order x y) [
  | inl is ↦ (λ i. is i ∷ same-rising xs ys up.1 climb.1 (rest is) i)
  | inr (inl less) ↦ absurd (let never : true ≡ false = sym (first-among x xs) ∙ same x ∙ is_among-above x (y ∷ ys) (less, above-more x y ys less climb.0) in cc)
  | inr (inr more) ↦ absurd (let never : true ≡ false = sym (first-among y ys) ∙ sym (same y) ∙ is_among-above y (x ∷ xs) (more, above-more y x xs more up.0) in cc)
]
  where
    rest : (x ≡ y) → (n : ℕ) → is_among n xs ≡ is_among n ys
    rest is n = elim (n == x) as (λ b. (n == x) ≡ b → is_among n xs ≡ is_among n ys) [
      | true ↦ (λ here. let at : n ≡ x = eqb-true n x here in
          is_among-above n xs (subst (λ (k : ℕ). AllAbove k xs) (sym at) up.0) ∙ sym (is_among-above n ys (subst (λ (k : ℕ). AllAbove k ys) (sym (at ∙ is)) climb.0)))
      | false ↦ (λ other.
          sym (ap (λ (b : Bool). b || is_among n xs) other) ∙ same n ∙ ap (λ (b : Bool). b || is_among n ys) (ap (λ (k : ℕ). n == k) (sym is) ∙ other))
    ] refl

-- numbers in order rise
range-above : (low first n : ℕ) → low < first → AllAbove low (range_with_len first n)
range-above low first zero less = tt
range-above low first (suc n) less = (less, range-above low (first + 1) n (omega arith))

range-rises : (first n : ℕ) → Rises (range_with_len first n)
range-rises first zero = tt
range-rises first (suc n) = (range-above first (first + 1) n (omega arith), range-rises (first + 1) n)

items-rise : (s : State) → Rises (items s)
items-rise s = rises-filter (is_item s) (range_with_len 0 s.next) (range-rises 0 s.next)

has-among : (numbers : List ℕ) (n : ℕ) → has numbers n ≡ is_among n numbers
has-among [] n = refl
has-among (x ∷ xs) n = λ i. eqb-turned x n i || has-among xs n i

pub links-told : (s : State) (known : Known) → IsValid s → LinkListsRise known → ((item dir : ℕ) → verdict_in known item dir ≡ verdict_of s item dir) → AreLinksOf s known
links-told s known valid rise same = record {
  found = λ dir. same-rising (transient_in known dir) (links s dir).found
      (sorted-rise (transient_in known dir) (sorted_from_strictly_increasing (transient_in known dir) (rise dir).transient))
      (subst (λ (numbers : List ℕ). Rises numbers) (sym (found-listed s dir valid.acyclic)) (rises-filter (λ item. has (transient_at s dir) item) (items s) (items-rise s)))
      (λ n. ap (λ (v : Verdict). v.found) (same n dir) ∙ has-among (links s dir).found n);
  lent = λ dir. same-rising (lent_in known dir) (links s dir).lent
      (sorted-rise (lent_in known dir) (sorted_from_strictly_increasing (lent_in known dir) (rise dir).lent))
      (subst (λ (numbers : List ℕ). Rises numbers) (sym (lent-listed s dir valid.acyclic)) (rises-filter (λ item. has (links s dir).lent item) (items s) (items-rise s)))
      (λ n. ap (λ (v : Verdict). v.lent) (same n dir) ∙ has-among (links s dir).lent n);
}

-- and those of a state do
pub links-tell : (s : State) (known : Known) → AreLinksOf s known → (item dir : ℕ) → verdict_in known item dir ≡ verdict_of s item dir
links-tell s known are item dir = λ i. record {
  found = (ap (is_among item) (are.found dir) ∙ sym (has-among (links s dir).found item)) i;
  lent = (ap (is_among item) (are.lent dir) ∙ sym (has-among (links s dir).lent item)) i;
}

-- links in which each item has the kinds that it had say of it what they said
pub told-alike : (old new : Known) → SameKinds old new → (item dir : ℕ) → verdict_in new item dir ≡ verdict_in old item dir
told-alike old new same item dir = ap (λ (lists : Lists). record { found = is_among item lists.transient; lent = is_among item lists.lent }) (same dir)

-- and where nothing is linked, nothing is said
pub told-nothing : (known : Known) → IsEmpty known → (item dir : ℕ) → verdict_in known item dir ≡ no_verdict
told-nothing known none item dir = ap (λ (lists : Lists). record { found = is_among item lists.transient; lent = is_among item lists.lent }) (none dir)
