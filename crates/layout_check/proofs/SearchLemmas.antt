-- The entry of a number, found by how many entries have smaller ones.
use Rattle.std.proofs.Common.{◌≡◌, ℕ, zero, suc, ◌+◌, ◌<◌, ◌≤◌, Bool, true, false, cond, List, [], ◌∷◌, length, get_or}
use Rattle.std.proofs.Common.{refl, ap, sym, ◌∙◌, arith}
use Rattle.std.specs.Prelude.{◌==◌, nat_lt, Option, Some, None, slice_get}
use Rattle.std.specs.List.{AllByRecursion, prefix_len}
use Rattle.std.specs.List.Sorted.{IsPartitionPoint, IsPartitionedBy}
use Rattle.std.proofs.lemmas.Bool.Decides.{nat_tests}
use Rattle.hac_model.specs.Tree.{entry_at}
use Rattle.hac_model.specs.declared.states.Entry.{Entry}
use Rattle.layout_check.specs.Rising.{DoRise}

-- the entry has a smaller number
abbrev pub is_below : ℕ → Entry → Bool
is_below number entry = nat_lt entry.number number

all-index :
    (low : ℕ) (es : List Entry) (i : ℕ) (d : Entry) → AllByRecursion (λ (e : Entry). low < e.number) es →
    i < length es → low < (get_or es i d).number
all-index low [] i d h inside = absurd (omega arith)
all-index low (e ∷ es) zero d h inside = h.0
all-index low (e ∷ es) (suc i) d h inside = all-index low es i d h.1 (omega arith)

-- the first `n` entries pass the test, and no others do: then `n` is how many first ones pass it
prefix-point :
    (p : Entry → Bool) (es : List Entry) (i : ℕ) → i ≤ length es →
    IsPartitionPoint (λ y. p y ≡ true) (λ y. p y ≡ false) es i → i ≡ prefix_len p es
prefix-point p [] i inside h = omega arith
prefix-point p (e ∷ es) zero inside h = let first : p e ≡ false = h.1 0 e (omega arith) (omega arith) in rw first refl
prefix-point p (e ∷ es) (suc i) inside h =
    let first : p e ≡ true = h.0 0 e (omega arith) (omega arith) in
    let rest : i ≡ prefix_len p es = prefix-point p es i (omega arith) (
      (λ k d low high. h.0 (suc k) d (omega arith) (omega arith)),
      (λ k d low high. h.1 (suc k) d (omega arith) (omega arith)),
    )
    in
    rw first (omega arith)

module _ (number : ℕ) where
  -- the entries of smaller numbers come first
  pub below-partition : (es : List Entry) → DoRise es → IsPartitionedBy (is_below number) es
  below-partition [] h i j d le inside passes = absurd (omega arith)
  below-partition (e ∷ es) h zero zero d le inside passes = passes
  below-partition (e ∷ es) h zero (suc j) d le inside passes =
      let over : e.number < (get_or es j d).number = all-index e.number es j d h.0 (omega arith) in
      grind (arith, nat_tests, over, passes)
  below-partition (e ∷ es) h (suc i) zero d le inside passes = absurd (omega arith)
  below-partition (e ∷ es) h (suc i) (suc j) d le inside passes =
      below-partition es h.1 i j d (omega arith) (omega arith) passes

  -- the entry that was come upon, if it has the number
  abbrev pub if_numbered : Option Entry → Option Entry
  if_numbered None = None
  if_numbered (Some e) = cond (e.number == number) (Some e) None

  none-behind :
      (low : ℕ) (es : List Entry) → number ≤ low → AllByRecursion (λ (e : Entry). low < e.number) es →
      entry_at es number ≡ None
  none-behind low [] h all = refl
  none-behind low (e ∷ es) h all =
      let other : (e.number == number) ≡ false = grind (arith, nat_tests, all.0) in
      ap (λ (b : Bool). cond b (Some e) (entry_at es number)) other ∙ none-behind low es h all.1

  -- an entry of the number is where those of smaller numbers end
  pub numbered-point :
      (es : List Entry) → DoRise es → entry_at es number ≡ if_numbered (slice_get es (prefix_len (is_below number) es))
  numbered-point [] h = refl
  numbered-point (e ∷ es) h =
      elim (nat_lt e.number number) as (λ b.
      nat_lt e.number number ≡ b →
      entry_at (e ∷ es) number ≡ if_numbered (slice_get (e ∷ es) (cond b (1 + prefix_len (is_below number) es) 0))) [
        | true ↦ (λ below.
            let more : 1 + prefix_len (is_below number) es ≡ suc (prefix_len (is_below number) es) = omega arith in
            let other : (e.number == number) ≡ false = grind (arith, nat_tests, below) in
            ap (λ (b : Bool). cond b (Some e) (entry_at es number)) other
            ∙ numbered-point es h.1
            ∙ ap (λ (i : ℕ). if_numbered (slice_get (e ∷ es) i)) (sym more))
        | false ↦ (λ behind. here behind)
      ] refl
    where
      here : nat_lt e.number number ≡ false → entry_at (e ∷ es) number ≡ cond (e.number == number) (Some e) None
      here behind =
          elim (e.number == number) as (λ b. cond b (Some e) (entry_at es number) ≡ cond b (Some e) None) [
            | true ↦ refl
            | false ↦ none-behind e.number es (grind (arith, nat_tests, behind)) h.0
          ]

get-inside : (es : List Entry) (i : ℕ) (d : Entry) → i < length es → slice_get es i ≡ Some (get_or es i d)
get-inside [] i d inside = absurd (omega arith)
get-inside (e ∷ es) zero d inside = refl
get-inside (e ∷ es) (suc i) d inside = get-inside es i d (omega arith)

get-outside : (es : List Entry) (i : ℕ) → length es ≤ i → slice_get es i ≡ None
get-outside [] i outside = refl
get-outside (e ∷ es) zero outside = absurd (omega arith)
get-outside (e ∷ es) (suc i) outside = get-outside es i (omega arith)

module _ (number : ℕ) (es : List Entry) (rises : DoRise es) (i : ℕ) (inside : i ≤ length es)
    (point : IsPartitionPoint (λ y. is_below number y ≡ true) (λ y. is_below number y ≡ false) es i) where
  at-point : entry_at es number ≡ if_numbered number (slice_get es i)
  at-point =
      numbered-point number es rises
      ∙ ap (λ (k : ℕ). if_numbered number (slice_get es k)) (sym (prefix-point (is_below number) es i inside point))

  pub entry-end : length es ≤ i → entry_at es number ≡ None
  entry-end outside = at-point ∙ ap (λ (o : Option Entry). if_numbered number o) (get-outside es i outside)

  pub entry-point :
      (e : Entry) → i < length es → e ≡ get_or es i e → entry_at es number ≡ cond (e.number == number) (Some e) None
  entry-point e within is =
      at-point ∙ ap (λ (o : Option Entry). if_numbered number o) (get-inside es i e within)
      ∙ ap (λ (m : Entry). if_numbered number (Some m)) (sym is)
