-- Lists of the numbers that pass a test, and those of the items that are judged again after an event.
use Rattle.std.proofs.Common.{◌≡◌, ℕ, zero, suc, ◌+◌, ◌<◌, ◌≤◌, Bool, true, false, cond, List, [], ◌∷◌, inl, inr, refl, ap, sym, ◌∙◌, arith}
use Rattle.std.specs.Prelude.{◌&&◌, not, filter, Option, Some, None, IsTrue}
use Rattle.std.specs.List.{range_with_len}
use Rattle.std.specs.Option.{option_map, option_map_or}
use Rattle.std.proofs.lemmas.Bool.{and_from, and_parts, cases_lt}
use Rattle.hac_model.specs.Tree.Depends.{Among}
use Rattle.hac_model.specs.Tree.{entry_at, is_linkable}
use Rattle.hac_model.specs.Tree.Events.{accepted, apply, changed_at, edited, indexed, next_dirty}
use Rattle.hac_model.specs.Tree.Links.{is_item}
use Rattle.hac_model.specs.Tree.Touched.{touched, touches}
use Rattle.hac_model.specs.Tree.Valid.{IsLayout}
use Rattle.hac_model.specs.declared.events.Event.{Event}
use Rattle.hac_model.specs.declared.events.Event.TheVariants.{Step}
use Rattle.hac_model.specs.declared.states.Entry.{Entry}
use Rattle.hac_model.specs.declared.states.State.{State}
use Rattle.hac_model.proofs.RangeLemmas.{in-range, range-in}
use Rattle.hac_model.proofs.TreeLemmas.{entry_at-next}
use Rattle.hac_model.proofs.LayoutLemmas.{apply-layout}
use Rattle.dep_graph.specs.Searches.{EachOnce}
use Rattle.reeval.proofs.EventLemmas.{Owes, is_seen, items-seen}
use Rattle.kept_links.specs.Items.{is_other, is_passed_over, others}

-- Numbers that follow one another.

range-once : (a n : ℕ) → EachOnce (range_with_len a n)
range-once a zero = tt
range-once a (suc n) = (λ again. let high = in-range (a + 1) n a again in absurd (omega (arith, high)), range-once (a + 1) n)

-- Those that pass a test.

pub filter-passes : (p : ℕ → Bool) (ns : List ℕ) (k : ℕ) → Among (filter p ns) k → (p k ≡ true) × Among ns k
filter-passes p [] k among = absurd among
filter-passes p (n ∷ ns) k among = at (p n) refl (filter-passes p ns k) among
  where
    at : (b : Bool) → p n ≡ b → (Among (filter p ns) k → (p k ≡ true) × Among ns k) → Among (cond b (n ∷ filter p ns) (filter p ns)) k → (p k ≡ true) × Among (n ∷ ns) k
    at true is rest (inl same) = (ap p (sym same) ∙ is, inl same)
    at true is rest (inr more) = let later = rest more in (later.0, inr later.1)
    at false is rest more = let later = rest more in (later.0, inr later.1)

pub passes-filter : (p : ℕ → Bool) (ns : List ℕ) (k : ℕ) → p k ≡ true → Among ns k → Among (filter p ns) k
passes-filter p [] k is among = absurd among
passes-filter p (n ∷ ns) k is among = at (p n) refl (passes-filter p ns k is) among
  where
    at : (b : Bool) → p n ≡ b → (Among ns k → Among (filter p ns) k) → Among (n ∷ ns) k → Among (cond b (n ∷ filter p ns) (filter p ns)) k
    at true held rest (inl same) = inl same
    at true held rest (inr more) = inr (rest more)
    at false held rest (inl same) = let never : false ≡ true = sym held ∙ ap p same ∙ is in absurd cc
    at false held rest (inr more) = rest more

pub filter-once : (p : ℕ → Bool) (ns : List ℕ) → EachOnce ns → EachOnce (filter p ns)
filter-once p [] once = tt
filter-once p (n ∷ ns) once = at (p n) (filter-once p ns once.1)
  where
    at : (b : Bool) → EachOnce (filter p ns) → EachOnce (cond b (n ∷ filter p ns) (filter p ns))
    at true rest = (λ again. once.0 ((filter-passes p ns n again).1), rest)
    at false rest = rest

-- none is left where none passes
pub filter_nowhere : (p : ℕ → Bool) (ns : List ℕ) → ((n : ℕ) → p n ≡ false) → filter p ns ≡ []
filter_nowhere p [] none = refl
filter_nowhere p (n ∷ ns) none = ap (λ (b : Bool). cond b (n ∷ filter p ns) (filter p ns)) (none n) ∙ filter_nowhere p ns none

module _ (p : ℕ → Bool) (only : ℕ) where
  abbrev PassesAlone : Type 0
  PassesAlone = (n : ℕ) → p n ≡ true → n ≡ only

  -- another doesn't pass
  fails : PassesAlone → (n : ℕ) → (n ≡ only → ⊥) → p n ≡ false
  fails alone n apart = at (p n) refl
    where
      at : (b : Bool) → p n ≡ b → b ≡ false
      at true is = absurd (apart (alone n is))
      at false is = refl

  skipped : PassesAlone → (a n : ℕ) → (a ≡ only → ⊥) → filter p (range_with_len a (suc n)) ≡ filter p (range_with_len (a + 1) n)
  skipped alone a n apart = ap (λ (b : Bool). cond b (a ∷ filter p (range_with_len (a + 1) n)) (filter p (range_with_len (a + 1) n))) (fails alone a apart)

  -- the numbers end before the one that may pass
  pub filter_past : (a n : ℕ) → PassesAlone → a + n ≤ only → filter p (range_with_len a n) ≡ []
  filter_past a zero alone high = refl
  filter_past a (suc n) alone high = skipped alone a n (λ same. absurd (omega (arith, high, same))) ∙ filter_past (a + 1) n alone (omega (arith, high))

  -- they begin behind it
  filter-behind : (a n : ℕ) → PassesAlone → only < a → filter p (range_with_len a n) ≡ []
  filter-behind a zero alone low = refl
  filter-behind a (suc n) alone low = skipped alone a n (λ same. absurd (omega (arith, low, same))) ∙ filter-behind (a + 1) n alone (omega (arith, low))

  -- it is one of them
  pub filter_one : (a n : ℕ) → PassesAlone → a ≤ only → only < a + n → filter p (range_with_len a n) ≡ cond (p only) (only ∷ []) []
  filter_one a zero alone low high = absurd (omega (arith, low, high))
  filter_one a (suc n) alone low high = elim (cases_lt a only) as (λ _. filter p (range_with_len a (suc n)) ≡ cond (p only) (only ∷ []) []) [
    | inl less ↦ skipped alone a n (λ same. absurd (omega (arith, less, same))) ∙ filter_one (a + 1) n alone (omega (arith, less)) (omega (arith, high))
    | inr none ↦ (
        let here : a ≡ only = omega (arith, low, none) in
        let rest = filter-behind (a + 1) n alone (omega (arith, none)) in
        (λ i. cond (p a) (a ∷ rest i) (rest i)) ∙ ap (λ (k : ℕ). cond (p k) (k ∷ []) []) here)
  ]

-- Those that an event touches, and the others.

module _ (s : State) (event : Event) where
  -- each comes once
  pub touched-once : EachOnce (touched s event)
  touched-once = filter-once (touches s event) (range_with_len 0 (apply s event).next) (range-once 0 (apply s event).next)

  pub others-once : EachOnce (others s event)
  others-once = filter-once (is_other s event) (range_with_len 0 (apply s event).next) (range-once 0 (apply s event).next)

  pub touched-touches : (item : ℕ) → Among (touched s event) item → touches s event item ≡ true
  touched-touches item among = (filter-passes (touches s event) (range_with_len 0 (apply s event).next) item among).0

  pub touches-touched : (item : ℕ) → item < (apply s event).next → touches s event item ≡ true → Among (touched s event) item
  touches-touched item less is =
      passes-filter (touches s event) (range_with_len 0 (apply s event).next) item is (range-in 0 (apply s event).next item (omega arith) (omega (arith, less)))

  pub others-untouched : (item : ℕ) → Among (others s event) item → (is_item (apply s event) item ≡ true) × (touches s event item ≡ false)
  others-untouched item among =
      let both = and_parts (is_item (apply s event) item && not (touches s event item)) (not (is_passed_over s event item)) (filter-passes (is_other s event) (range_with_len 0 (apply s event).next) item among).0 in
      let parts = and_parts (is_item (apply s event) item) (not (touches s event item)) both.0 in
      (parts.0, is-not (touches s event item) parts.1)
    where
      is-not : (b : Bool) → not b ≡ true → b ≡ false
      is-not true held = sym held
      is-not false held = refl

  pub untouched-others : (item : ℕ) → item < (apply s event).next → is_item (apply s event) item ≡ true → touches s event item ≡ false → is_passed_over s event item ≡ false → Among (others s event) item
  untouched-others item less is untouched seen =
      passes-filter (is_other s event) (range_with_len 0 (apply s event).next) item
      (and_from (is_item (apply s event) item && not (touches s event item)) (not (is_passed_over s event item)) (and_from (is_item (apply s event) item) (not (touches s event item)) is (ap not untouched)) (ap not seen))
      (range-in 0 (apply s event).next item (omega arith) (omega (arith, less)))

  -- none is in both
  pub touched-apart : (item : ℕ) → Among (touched s event) item → ¬ Among (others s event) item
  touched-apart item among other =
      let never : true ≡ false = sym (touched-touches item among) ∙ (others-untouched item other).1 in absurd cc

-- What comes in neither list.

-- an item has a number below the next one
pub item-below : (s : State) (n : ℕ) → IsLayout s → is_item s n ≡ true → n < s.next
item-below s n h is = elim (cases_lt n s.next) as (λ _. n < s.next) [
  | inl less ↦ less
  | inr high ↦ (let none : false ≡ true = ap (λ (o : Option Entry). option_map_or is_linkable (option_map (λ (e : Entry). e.body) o) false) (sym (entry_at-next 0 s.entries s.next n h.numbers high)) ∙ is in absurd cc)
]

-- no event gives numbers back
pub next-grows : (s : State) (event : Event) → s.next ≤ (apply s event).next
next-grows s Step = elim (next_dirty s.entries) as (λ o. s.next ≤ (option_map_or (λ file. changed_at s file (edited indexed)) o s).next) [
  | None ↦ omega arith
  | Some file ↦ omega arith
]
next-grows s other = omega arith

-- what the event leaves alone is an item after it where it was one
pub owed-item : (s : State) (event : Event) (item : ℕ) → Owes s event item → is_item s item ≡ is_item (apply s event) item
owed-item s event item owed = items-seen (entry_at s.entries item) ∙ ap is_seen owed.sight ∙ sym (items-seen (entry_at (apply s event).entries item))

-- it is no item, before or after the event, if the event leaves alone what it doesn't touch, and doesn't pass it over
pub in-neither : (s : State) (event : Event) (item : ℕ) → IsLayout s → IsTrue (accepted s event) → (touches s event item ≡ false → Owes s event item) → is_passed_over s event item ≡ false →
    ¬ Among (touched s event) item → ¬ Among (others s event) item →
    (is_item s item ≡ false) × (is_item (apply s event) item ≡ false)
in-neither s event item h ok owes seen no-touched no-other = (before (is_item s item) refl, after)
  where
    -- below the next number the event doesn't touch it
    untouched : item < (apply s event).next → touches s event item ≡ false
    untouched less = at (touches s event item) refl
      where
        at : (b : Bool) → touches s event item ≡ b → touches s event item ≡ false
        at true is = absurd (no-touched (touches-touched s event item less is))
        at false is = is

    none-after : (b : Bool) → is_item (apply s event) item ≡ b → is_item (apply s event) item ≡ false
    none-after true is =
        let less = item-below (apply s event) item (apply-layout s event h ok) is in
        absurd (no-other (untouched-others s event item less is (untouched less) seen))
    none-after false is = is

    after : is_item (apply s event) item ≡ false
    after = none-after (is_item (apply s event) item) refl

    before : (b : Bool) → is_item s item ≡ b → is_item s item ≡ false
    before true is = owed-item s event item (owes (untouched (omega (arith, item-below s item h is, next-grows s event)))) ∙ after
    before false is = is
