-- The marks of a directory, in order of number.
use Rattle.std.proofs.Common.{◌≡◌, ℕ, ◌+◌, ◌<◌, ◌≤◌, Bool, true, false, cond, List, [], ◌∷◌}
use Rattle.std.proofs.Common.{refl, subst, ap, sym, ◌∙◌, arith, inl, inr}
use Rattle.std.specs.Prelude.{nat_le, filter, Option, Some, None, IsTrue}
use Rattle.std.specs.List.{AllByRecursion}
use Rattle.std.specs.Option.{option_map, option_map_or}
use Rattle.std.proofs.lemmas.Bool.{cases_lt, leb-false, leb-true, or_cases}
use Rattle.std.proofs.lemmas.Bool.Decides.{nat_tests}
use Rattle.hac_model.specs.Tree.Links.{can_be_added, is_item}
use Rattle.hac_model.specs.Tree.{entry_at, is_directory_at, is_linkable, permanent_in, prohibited_in}
use Rattle.hac_model.specs.Tree.Valid.{AreMarks, AsksWell, IsValid, RiseFrom}
use Rattle.hac_model.specs.declared.limits.TheConstants.{NUMBERS_LIMIT}
use Rattle.hac_model.specs.declared.marks.Kind.{Kind}
use Rattle.hac_model.specs.declared.marks.Kind.TheVariants.{Permanent, Prohibited}
use Rattle.hac_model.specs.declared.states.Body.{Body}
use Rattle.hac_model.specs.declared.states.Body.TheVariants.{Semantic}
use Rattle.hac_model.specs.declared.states.Entry.{Entry}
use Rattle.hac_model.specs.declared.states.State.{State}
use Rattle.hac_model.proofs.LimitLemmas.{IsWithinLimits, limits-within, most-numbers}
use Rattle.hac_model.proofs.TreeLemmas.{entry_at-all, entry_at-next}
use Rattle.hac_model.proofs.ValidLemmas.{directory-below}
use Rattle.set_pool.specs.Rising.{first_from}
use Rattle.snapshots.specs.Taking.{marked_at}

-- ---- numbers that rise

-- those that aren't below a number
abbrev pub from_on : ℕ → List ℕ → List ℕ
from_on from ns = filter (nat_le from) ns

pub from-first : (ns : List ℕ) → from_on 0 ns ≡ ns
from-first [] = refl
from-first (n ∷ ns) =
    let test : nat_le 0 n ≡ true = grind (arith, nat_tests) in
    ap (λ (b : Bool). cond b (n ∷ from_on 0 ns) (from_on 0 ns)) test ∙ ap (λ (rest : List ℕ). n ∷ rest) (from-first ns)

from-low : (from bound : ℕ) (ns : List ℕ) → from ≤ bound → RiseFrom bound ns → from_on from ns ≡ ns
from-low from bound [] low rise = refl
from-low from bound (n ∷ ns) low rise =
    let least : bound ≤ n = rise.0 in
    let test : nat_le from n ≡ true = grind (arith, nat_tests) in
    ap (λ (b : Bool). cond b (n ∷ from_on from ns) (from_on from ns)) test
    ∙ ap (λ (rest : List ℕ). n ∷ rest) (from-low from (n + 1) ns (omega arith) rise.1)

-- where there is none, none is left
pub from-none : (from : ℕ) (ns : List ℕ) → first_from from ns ≡ None → from_on from ns ≡ []
from-none from [] none = refl
from-none from (n ∷ ns) none = one (nat_le from n) none (from-none from ns)
  where
    one : (b : Bool) → cond b (Some n) (first_from from ns) ≡ None → (first_from from ns ≡ None → from_on from ns ≡ [])
        → cond b (n ∷ from_on from ns) (from_on from ns) ≡ []
    one true none rest = absurd cc
    one false none rest = rest none

-- the first of them isn't below either
first-above : (from : ℕ) (ns : List ℕ) (n : ℕ) → first_from from ns ≡ Some n → from ≤ n
first-above from [] n found = absurd cc
first-above from (m ∷ ns) n found = one (nat_le from m) refl found (first-above from ns n)
  where
    one : (b : Bool) → nat_le from m ≡ b → cond b (Some m) (first_from from ns) ≡ Some n
        → (first_from from ns ≡ Some n → from ≤ n) → from ≤ n
    one true low found rest =
        let same : m ≡ n = cc in
        let least : from ≤ m = leb-true from m low in
        omega (arith, same, least)
    one false high found rest = rest found

-- it comes first, and behind it those that are above it
pub from-some : (from bound : ℕ) (ns : List ℕ) (n : ℕ) → RiseFrom bound ns → first_from from ns ≡ Some n
    → from_on from ns ≡ n ∷ from_on (n + 1) ns
from-some from bound [] n rise found = absurd cc
from-some from bound (m ∷ ns) n rise found =
    one (nat_le from m) refl found (from-some from (m + 1) ns n rise.1)
  where
    one : (b : Bool) → nat_le from m ≡ b → cond b (Some m) (first_from from ns) ≡ Some n
        → (first_from from ns ≡ Some n → from_on from ns ≡ n ∷ from_on (n + 1) ns)
        → cond b (m ∷ from_on from ns) (from_on from ns) ≡ n ∷ from_on (n + 1) (m ∷ ns)
    one true low found rest =
        let same : m ≡ n = cc in
        let least : from ≤ m = leb-true from m low in
        let test : nat_le (n + 1) m ≡ false = grind (arith, nat_tests, same) in
        (λ i. same i ∷ from-low from (m + 1) ns (omega (arith, least)) rise.1 i)
        ∙ ap (λ (rest : List ℕ). n ∷ rest) (sym (from-low (n + 1) (m + 1) ns (omega (arith, same)) rise.1))
        ∙ ap (λ (b : Bool). n ∷ cond b (m ∷ from_on (n + 1) ns) (from_on (n + 1) ns)) (sym test)
    one false high found rest =
        let less : m < from = leb-false from m high in
        let least : from ≤ n = first-above from ns n found in
        let test : nat_le (n + 1) m ≡ false = grind (arith, nat_tests, less, least) in
        rest found ∙ ap (λ (b : Bool). n ∷ cond b (m ∷ from_on (n + 1) ns) (from_on (n + 1) ns)) (sym test)

first-all : (P : ℕ → Type 0) (from : ℕ) (ns : List ℕ) (n : ℕ) → AllByRecursion P ns → first_from from ns ≡ Some n → P n
first-all P from [] n all found = absurd cc
first-all P from (m ∷ ns) n all found = one (nat_le from m) found (first-all P from ns n all.1)
  where
    one : (b : Bool) → cond b (Some m) (first_from from ns) ≡ Some n → (first_from from ns ≡ Some n → P n) → P n
    one true found rest = let same : m ≡ n = cc in subst P same all.0
    one false found rest = rest found

-- ---- marks of a valid state

module _ (s : State) (h : IsValid s) where
  item-below : (n : ℕ) → is_item s n ≡ true → n < s.next
  item-below n item = elim (cases_lt n s.next) as (λ _. n < s.next) [
    | inl less ↦ less
    | inr high ↦
        (let none : false ≡ true =
        ap (λ (o : Option Entry). option_map_or is_linkable (option_map (λ (e : Entry). e.body) o) false)
        (sym (entry_at-next 0 s.entries s.next n h.layout.numbers high)) ∙ item in
        absurd cc)
  ]

  added-below : (n : ℕ) → can_be_added s n ≡ true → n < s.next
  added-below n can = elim (or_cases (is_item s n) (is_directory_at s.entries n) can) [
    | inl item ↦ item-below n item
    | inr dir ↦ directory-below s n h.layout dir
  ]

  -- numbers below the next one that rise
  record AreBelow (numbers : List ℕ) : Type 0 where
    pub rise : RiseFrom 0 numbers
    pub below : AllByRecursion (λ n. n < s.next) numbers

  marks-below : (test : ℕ → Bool) → ((n : ℕ) → test n ≡ true → n < s.next) → (numbers : List ℕ) → AreMarks test numbers
      → AreBelow numbers
  marks-below test below numbers marks = record { rise = marks.rise; below = each numbers marks.there }
    where
      each : (ns : List ℕ) → AllByRecursion (λ n. IsTrue (test n)) ns → AllByRecursion (λ n. n < s.next) ns
      each [] there = tt
      each (n ∷ ns) there = (below n there.0, each ns there.1)

  none-below : AreBelow []
  none-below = record { rise = tt; below = tt }

  body-below : (body : Body) → AsksWell s body → AreBelow (permanent_in body) × AreBelow (prohibited_in body)
  body-below (Semantic query permanent prohibited) asks =
      let added = marks-below (can_be_added s) added-below permanent asks.added in
      (added, marks-below (is_item s) item-below prohibited asks.removed)
  body-below other asks = (none-below, none-below)

  both-below : (dir : ℕ) → AreBelow (marked_at s dir Permanent) × AreBelow (marked_at s dir Prohibited)
  both-below dir = one (entry_at s.entries dir) refl
    where
      one : (o : Option Entry) → entry_at s.entries dir ≡ o
          → AreBelow (option_map_or permanent_in (option_map (λ (e : Entry). e.body) o) [])
          × AreBelow (option_map_or prohibited_in (option_map (λ (e : Entry). e.body) o) [])
      one None none = (none-below, none-below)
      one (Some e) found = body-below e.body (entry_at-all (λ e. AsksWell s e.body) s.entries dir e h.queries found)

  marked-below : (dir : ℕ) (kind : Kind) → AreBelow (marked_at s dir kind)
  marked-below dir Permanent = (both-below dir).0
  marked-below dir Prohibited = (both-below dir).1
  marked-below dir other = none-below

  -- the next mark is the first of those that are left
  pub next-marked : (dir : ℕ) (kind : Kind) (from n : ℕ) → first_from from (marked_at s dir kind) ≡ Some n
      → from_on from (marked_at s dir kind) ≡ n ∷ from_on (n + 1) (marked_at s dir kind)
  next-marked dir kind from n found = from-some from 0 (marked_at s dir kind) n (marked-below dir kind).rise found

  next-below : (dir : ℕ) (kind : Kind) (from n : ℕ) → first_from from (marked_at s dir kind) ≡ Some n → n < s.next
  next-below dir kind from n found =
      first-all (λ n. n < s.next) from (marked_at s dir kind) n (marked-below dir kind).below found

  -- it is so small that there is a number behind it
  pub next-small : (dir : ℕ) (kind : Kind) (from n : ℕ) → first_from from (marked_at s dir kind) ≡ Some n
      → n < NUMBERS_LIMIT
  next-small dir kind from n found =
      let within : IsWithinLimits s = limits-within s h.layout.limits in
      let few : s.next ≤ NUMBERS_LIMIT = grind (arith, nat_tests, most-numbers s within) in
      let less : n < s.next = next-below dir kind from n found in
      omega (arith, less, few)
