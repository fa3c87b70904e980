-- Facts on the slots of a pool: what a changed slot does to the lists and to the stack of free names.
use Rattle.std.proofs.Common.{◌≡◌, ℕ, suc, ◌+◌, ◌-◌, ◌<◌, Bool, true, false, cond, eqb, List, [], ◌∷◌, ◌++◌, length, get_or, set, refl, sym, ap, ◌∙◌, subst, arith, inl, inr, Option, Some, None, add-one}
use Rattle.std.specs.Bool.{IsTrue}
use Rattle.std.specs.Option.{is_some, unwrap_or}
use Rattle.std.specs.List.{count_by}
use Rattle.std.specs.List.Sorted.{IsStrictlyIncreasing, IsStrictlySortedBy}
use Rattle.std.specs.Cmp.{nat_cmp_is}
use Rattle.std.specs.Ordering.{nat_cmp}
use Rattle.std.specs.declared.cmp.Ordering.TheVariants.{Less}
use Rattle.std.proofs.lemmas.Map.Keys.{IsStrictlyIncreasing-from_sorted}
use Rattle.set_pool.proofs.RisingLemmas.{all-weaker}
use Rattle.std.proofs.lemmas.Bool.{both_ways, cases_eq, cases_lt, cases_order, eq-eqb, ne_eqb}
use Rattle.std.proofs.lemmas.List.{get_or_append_left, get_or_past, get_or_push, get_or-map, get_or-set_other, get_or-set_same, length_push, length-map, map-append, map-set}
use Rattle.std.proofs.lemmas.List.Sums.{sum_by-append, sum_by-set}
use Rattle.set_pool.specs.Lists.{AllRise, ChangesAt, SameLists, is_live_at, list_at, members_at}
use Rattle.set_pool.specs.Rising.{Rises}
use Rattle.set_pool.specs.Slots.{IsFreeAbove, IsStacked, is_free_slot, list_of_slot, lists_of, slot_at}
use Rattle.set_pool.specs.declared.slots.Slot.{Slot}
use Rattle.set_pool.specs.declared.slots.Slot.TheVariants.{Free, Live}

-- a list after a write at n, and after one more element
pub get_or-set : {X : Type 0} (xs : List X) (n q : ℕ) (v d : X) → n < length xs → get_or (set xs n v) q d ≡ cond (eqb q n) v (get_or xs q d)
get_or-set xs n q v d within =
    elim (cases_eq q n) [
      | inl same ↦ let e = eq-eqb q n same in rw e (ap (λ k. get_or (set xs n v) k d) same ∙ get_or-set_same xs n v d within)
      | inr differ ↦ let e = ne_eqb q n differ in rw e (get_or-set_other xs n q v d differ)
    ]

get_or-push : {X : Type 0} (xs : List X) (q : ℕ) (v d : X) → get_or (xs ++ v ∷ []) q d ≡ cond (eqb q (length xs)) v (get_or xs q d)
get_or-push xs q v d =
    elim (cases_order q (length xs)) [
      | inl same ↦ let e = eq-eqb q (length xs) same in rw e (get_or_push xs v d q (sym same))
      | inr (inl less) ↦ let e = ne_eqb q (length xs) (omega arith) in rw e (get_or_append_left xs (v ∷ []) d q less)
      | inr (inr more) ↦ let e = ne_eqb q (length xs) (omega arith) in rw e (get_or_past (xs ++ v ∷ []) q d (omega (arith, length_push xs v)) ∙ sym (get_or_past xs q d (omega arith)))
    ]

-- what a live name has
pub live-within : (xs : List Slot) (n : ℕ) → IsTrue (is_live_at (lists_of xs) n) → n < length xs
live-within xs n live =
    elim (cases_lt n (length xs)) [
      | inl within ↦ within
      | inr past ↦ absurd (both_ways _ (ap is_some (get_or_past (lists_of xs) n None (omega (arith, length-map xs list_of_slot)))) live)
    ]

pub list_at-slot : (xs : List Slot) (n : ℕ) → n < length xs → list_at (lists_of xs) n ≡ list_of_slot (slot_at xs n)
list_at-slot xs n within = get_or-map list_of_slot xs n (Live []) None within

live-cases : (s : Slot) → is_some (list_of_slot s) ≡ true → (t : List ℕ) × (s ≡ Live t)
live-cases (Free below count) e = absurd (both_ways false refl e)
live-cases (Live t) e = (t, refl)

pub live-slot : (xs : List Slot) (n : ℕ) → IsTrue (is_live_at (lists_of xs) n) → (t : List ℕ) × (slot_at xs n ≡ Live t)
live-slot xs n live = live-cases (slot_at xs n) (sym (ap is_some (list_at-slot xs n (live-within xs n live))) ∙ live)

pub free-within : (xs : List Slot) (n below count : ℕ) → slot_at xs n ≡ Free below count → n < length xs
free-within xs n below count e =
    elim (cases_lt n (length xs)) [
      | inl within ↦ within
      | inr past ↦ let out = get_or_past xs n (Live []) past in cc
    ]

-- a write changes the list of its name alone
pub changes : (xs : List Slot) (n : ℕ) (v : Slot) → n < length xs → ChangesAt (lists_of xs) (lists_of (set xs n v)) n (list_of_slot v)
changes xs n v within q = ap (λ lists. list_at lists q) (map-set list_of_slot xs n v) ∙ get_or-set (lists_of xs) n q (list_of_slot v) None (omega (arith, length-map xs list_of_slot))

-- one more free slot changes no list
pub same-pushed : (xs : List Slot) (below count : ℕ) → SameLists (lists_of xs) (lists_of (xs ++ Free below count ∷ []))
same-pushed xs below count q =
    ap (λ lists. list_at lists q) (map-append list_of_slot xs (Free below count ∷ []))
    ∙ get_or-push (lists_of xs) q None None
    ∙ none-or (eqb q (length (lists_of xs))) (λ e. get_or_past (lists_of xs) q None (let same = Rattle.std.proofs.lemmas.Bool.eqb-true q (length (lists_of xs)) e in omega arith))
  where
    none-or : (b : Bool) {o : Option (List ℕ)} → (b ≡ true → o ≡ None) → cond b None o ≡ o
    none-or true f = sym (f refl)
    none-or false f = refl

-- lists rise after a change to a list that rises
changed-members : (b : Bool) (list old : Option (List ℕ)) → Rises (unwrap_or list []) → Rises (unwrap_or old []) → Rises (unwrap_or (cond b list old) [])
changed-members true list old r s = r
changed-members false list old r s = s

rise-changed : (xs : List Slot) (n : ℕ) (v : Slot) → n < length xs → Rises (unwrap_or (list_of_slot v) []) → ((q : ℕ) → Rises (members_at (lists_of xs) q)) → (q : ℕ) → Rises (members_at (lists_of (set xs n v)) q)
rise-changed xs n v within r all q =
    subst (λ o. Rises (unwrap_or o [])) (sym (changes xs n v within q)) (changed-members (eqb q n) (list_of_slot v) (list_at (lists_of xs) q) r (all q))

-- slots that differ from others at n alone, where they have v
module _ (xs ys : List Slot) (n : ℕ) (v : Slot) (new : (q : ℕ) → slot_at ys q ≡ cond (eqb q n) v (slot_at xs q)) where
  here : slot_at ys n ≡ v
  here = let e = eq-eqb n n refl in new n ∙ (rw e refl)

  other : (q : ℕ) → (q ≡ n → ⊥) → slot_at ys q ≡ slot_at xs q
  other q differ = let e = ne_eqb q n differ in new q ∙ (rw e refl)

  was-free : (u : List ℕ) → v ≡ Live u → (q below count : ℕ) → slot_at ys q ≡ Free below count → (q ≡ n → ⊥) × (slot_at xs q ≡ Free below count)
  was-free u live q below count e =
      let differ : q ≡ n → ⊥ = λ same. let at : slot_at ys n ≡ Free below count = subst (λ k. slot_at ys k ≡ Free below count) same e in let h = here in cc in
      (differ, sym (other q differ) ∙ e)

  module _ (t : List ℕ) (live : slot_at xs n ≡ Live t) where
    still-free : (q count : ℕ) → IsFreeAbove xs q count → IsFreeAbove ys q count
    still-free q count f =
        let differ : q ≡ n → ⊥ = λ same. let at : slot_at xs n ≡ Free f.0 count = subst (λ k. slot_at xs k ≡ Free f.0 count) same f.1 in cc in
        (f.0, other q differ ∙ f.1)

    -- a live slot with another list
    kept-stack : (u : List ℕ) (top free : ℕ) → v ≡ Live u → free ≡ count_by is_free_slot ys → ((q : ℕ) → Rises (members_at (lists_of ys) q)) → IsStacked xs top free → IsStacked ys top free
    kept-stack u top free is counted rise i =
        record {
          counted = counted;
          top_is_free = λ count e. still-free top count (i.top_is_free count e);
          below_is_free = λ name below count e. still-free below count (i.below_is_free name below count (was-free u is name below (suc count) e).1);
          below_top = λ name below count e. i.below_top name below count (was-free u is name below count e).1;
          distinct = λ one another below under count e f. i.distinct one another below under count (was-free u is one below count e).1 (was-free u is another under count f).1;
          rise = rise;
        }

    -- a live slot, or the one past the end, is put on the stack
    pushed-stack : (top free : ℕ) → v ≡ Free top free → suc free ≡ count_by is_free_slot ys → ((q : ℕ) → Rises (members_at (lists_of ys) q)) → IsStacked xs top free → IsStacked ys n (suc free)
    pushed-stack top free is counted rise i =
        record {
          counted = counted;
          top_is_free = λ count e. (top, here ∙ is ∙ (let same : free ≡ count = cc in ap (Free top) same));
          below_is_free = λ name below count e.
              elim (cases_eq name n) [
                | inl same ↦
                    let at : slot_at ys n ≡ Free below (suc count) = subst (λ k. slot_at ys k ≡ Free below (suc count)) same e in
                    let h = here in
                    let under : top ≡ below = cc in
                    let more : free ≡ suc count = cc in
                    subst (λ k. IsFreeAbove ys k count) under (still-free top count (i.top_is_free count more))
                | inr differ ↦ still-free below count (i.below_is_free name below count (sym (other name differ) ∙ e))
              ];
          below_top = λ name below count e.
              elim (cases_eq name n) [
                | inl same ↦
                    let at : slot_at ys n ≡ Free below count = subst (λ k. slot_at ys k ≡ Free below count) same e in
                    let h = here in
                    let more : free ≡ count = cc in
                    omega arith
                | inr differ ↦ let less = i.below_top name below count (sym (other name differ) ∙ e) in omega arith
              ];
          distinct = λ one another below under count e f.
              elim (cases_eq one n) [
                | inl same ↦
                    elim (cases_eq another n) [
                      | inl also ↦ same ∙ sym also
                      | inr differ ↦
                          let at : slot_at ys n ≡ Free below count = subst (λ k. slot_at ys k ≡ Free below count) same e in
                          let h = here in
                          let more : free ≡ count = cc in
                          let less = i.below_top another under count (sym (other another differ) ∙ f) in
                          absurd (omega arith)
                    ]
                | inr differ ↦
                    elim (cases_eq another n) [
                      | inl same ↦
                          let at : slot_at ys n ≡ Free under count = subst (λ k. slot_at ys k ≡ Free under count) same f in
                          let h = here in
                          let more : free ≡ count = cc in
                          let less = i.below_top one below count (sym (other one differ) ∙ e) in
                          absurd (omega arith)
                      | inr also ↦ i.distinct one another below under count (sym (other one differ) ∙ e) (sym (other another also) ∙ f)
                    ]
              ];
          rise = rise;
        }

  -- the top of the stack becomes live
  popped-stack : (below count : ℕ) → slot_at xs n ≡ Free below count → v ≡ Live [] → count ≡ count_by is_free_slot ys → ((q : ℕ) → Rises (members_at (lists_of ys) q)) → IsStacked xs n (suc count) → IsStacked ys below count
  popped-stack below count top is counted rise i =
      record {
        counted = counted;
        top_is_free = λ less e.
            let f = i.below_is_free n below less (top ∙ ap (Free below) e) in
            let differ : below ≡ n → ⊥ = λ same.
            let at : slot_at xs n ≡ Free f.0 less = subst (λ k. slot_at xs k ≡ Free f.0 less) same f.1 in
            let equal : count ≡ less = cc in
            omega arith
            in
            (f.0, other below differ ∙ f.1);
        below_is_free = λ name under less e.
            let w = was-free [] is name under (suc less) e in
            let f = i.below_is_free name under less w.1 in
            let differ : under ≡ n → ⊥ = λ same.
            let at : slot_at xs n ≡ Free f.0 less = subst (λ k. slot_at xs k ≡ Free f.0 less) same f.1 in
            let equal : count ≡ less = cc in
            let bound = i.below_top name under (suc less) w.1 in
            omega arith
            in
            (f.0, other under differ ∙ f.1);
        below_top = λ name under less e.
            let w = was-free [] is name under less e in
            let bound = i.below_top name under less w.1 in
            let differ : less ≡ count → ⊥ = λ same. w.0 (i.distinct name n under below less w.1 (top ∙ ap (Free below) (sym same))) in
            omega arith;
        distinct = λ one another under over less e f. i.distinct one another under over less (was-free [] is one under less e).1 (was-free [] is another over less f).1;
        rise = rise;
      }

-- the count of free slots after a write
counted-set : (xs : List Slot) (n : ℕ) (v s : Slot) → n < length xs → slot_at xs n ≡ s → count_by is_free_slot (set xs n v) + cond (is_free_slot s) 1 0 ≡ count_by is_free_slot xs + cond (is_free_slot v) 1 0
counted-set xs n v s within e = ap (λ z. count_by is_free_slot (set xs n v) + cond (is_free_slot z) 1 0) (sym e) ∙ sum_by-set (λ z. cond (is_free_slot z) 1 0) xs n v (Live []) within

pub kept : (xs : List Slot) (n top free : ℕ) (t u : List ℕ) → n < length xs → slot_at xs n ≡ Live t → (Rises t → Rises u) → IsStacked xs top free → IsStacked (set xs n (Live u)) top free
kept xs n top free t u within live rises i =
    let c = counted-set xs n (Live u) (Live t) within live in
    let counted : free ≡ count_by is_free_slot (set xs n (Live u)) = omega (arith, i.counted, c) in
    let old : Rises t = subst (λ o. Rises (unwrap_or o [])) (list_at-slot xs n within ∙ ap list_of_slot live) (i.rise n) in
    kept-stack xs (set xs n (Live u)) n (Live u) (λ q. get_or-set xs n q (Live u) (Live []) within) t live u top free refl counted (rise-changed xs n (Live u) within (rises old) i.rise) i

pub pushed : (xs : List Slot) (n top free : ℕ) (t : List ℕ) → n < length xs → slot_at xs n ≡ Live t → IsStacked xs top free → IsStacked (set xs n (Free top free)) n (free + 1)
pushed xs n top free t within live i =
    let c = counted-set xs n (Free top free) (Live t) within live in
    let counted : suc free ≡ count_by is_free_slot (set xs n (Free top free)) = omega (arith, i.counted, c) in
    rw add-one (pushed-stack xs (set xs n (Free top free)) n (Free top free) (λ q. get_or-set xs n q (Free top free) (Live []) within) t live top free refl counted (rise-changed xs n (Free top free) within tt i.rise) i)

pub added : (xs : List Slot) (top free : ℕ) → IsStacked xs top free → IsStacked (xs ++ Free top free ∷ []) (length xs) (free + 1)
added xs top free i =
    let c = sum_by-append (λ z. cond (is_free_slot z) 1 0) xs (Free top free ∷ []) in
    let counted : suc free ≡ count_by is_free_slot (xs ++ Free top free ∷ []) = omega (arith, i.counted, c) in
    let rise = λ (q : ℕ). subst (λ o. Rises (unwrap_or o [])) (sym (same-pushed xs top free q)) (i.rise q) in
    rw add-one (pushed-stack xs (xs ++ Free top free ∷ []) (length xs) (Free top free) (λ q. get_or-push xs q (Free top free) (Live [])) [] (get_or_past xs (length xs) (Live []) (omega arith)) top free refl counted rise i)

pub popped : (xs : List Slot) (n below count : ℕ) → slot_at xs n ≡ Free below count → IsStacked xs n (suc count) → IsStacked (set xs n (Live [])) below count
popped xs n below count top i =
    let within = free-within xs n below count top in
    let c = counted-set xs n (Live []) (Free below count) within top in
    let counted : count ≡ count_by is_free_slot (set xs n (Live [])) = omega (arith, i.counted, c) in
    popped-stack xs (set xs n (Live [])) n (Live []) (λ q. get_or-set xs n q (Live []) (Live []) within) below count top refl counted (rise-changed xs n (Live []) within tt i.rise) i

-- a list that rises is one in which each number is below the next
sorted : (xs : List ℕ) → Rises xs → IsStrictlySortedBy nat_cmp xs
unfolding IsStrictlySortedBy
sorted [] s = tt
sorted (x ∷ xs) s = (all-weaker (λ y. x < y) (λ y. nat_cmp x y ≡ Less) (λ y p. sym (nat_cmp_is x y Less p)) xs s.0, sorted xs s.1)

pub increasing : (xs : List ℕ) → Rises xs → IsStrictlyIncreasing xs
increasing xs s = IsStrictlyIncreasing-from_sorted xs (sorted xs s)

pub all-rise : (xs : List Slot) (top free : ℕ) → IsStacked xs top free → AllRise (lists_of xs)
all-rise xs top free i q = increasing (members_at (lists_of xs) q) (i.rise q)

-- the top of the stack, where a name is free
pub top-free : (xs : List Slot) (top free : ℕ) → IsStacked xs top free → 0 < free → (below : ℕ) × (count : ℕ) × (slot_at xs top ≡ Free below count) × (free ≡ suc count)
top-free xs top free i p =
    let more : free ≡ suc (free - 1) = omega arith in
    let f = i.top_is_free (free - 1) more in
    (f.0, free - 1, f.1, more)

-- the list of a live slot becomes what f makes of it
pub put : (xs : List Slot) (n : ℕ) (t u : List ℕ) (f : List ℕ → List ℕ) (lists : List (Option (List ℕ))) → lists_of xs ≡ lists → n < length xs → slot_at xs n ≡ Live t → u ≡ f t → ChangesAt lists (lists_of (set xs n (Live u))) n (Some (f (members_at lists n)))
put xs n t u f lists e within live made =
    let members : members_at (lists_of xs) n ≡ t = ap (λ o. unwrap_or o []) (list_at-slot xs n within ∙ ap list_of_slot live) in
    let list : Some u ≡ Some (f (members_at (lists_of xs) n)) = ap Some (made ∙ ap f (sym members)) in
    subst (λ ls. ChangesAt ls (lists_of (set xs n (Live u))) n (Some (f (members_at ls n)))) e
    (subst (λ o. ChangesAt (lists_of xs) (lists_of (set xs n (Live u))) n o) list (changes xs n (Live u) within))
