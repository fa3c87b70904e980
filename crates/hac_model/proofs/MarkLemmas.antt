-- Lists of marks: what is in them after an item was put in or taken out, and that they rise.
use Rattle.std.proofs.Common.{◌≡◌, ℕ, ◌+◌, ◌≤◌, Bool, true, false, cond, List, [], ◌∷◌, refl, ap, sym, ◌∙◌, arith, eq-eqb, inl, inr}
use Rattle.std.specs.Prelude.{◌==◌, ◌&&◌, ◌||◌, not, nat_lt, filter}
use Rattle.std.specs.List.{AllByRecursion}
use Rattle.std.proofs.lemmas.Bool.{cases_order, eqb-false, eqb-true, ltb-false, ltb-true, ne_eqb, not-true, or_parts}
use Rattle.hac_model.specs.Tree.Events.{can_have_mark, forgetting, marked, marking, put_in, without}
use Rattle.hac_model.specs.Tree.Links.{can_be_added, has, is_item}
use Rattle.hac_model.specs.Tree.Valid.{AreMarks, AsksWell, IsSoundQuery, RiseFrom}
use Rattle.hac_model.specs.declared.marks.Kind.{Kind}
use Rattle.hac_model.specs.declared.marks.Kind.TheVariants.{Transient, Permanent, Prohibited, Unlinked}
use Rattle.hac_model.specs.declared.states.Body.{Body}
use Rattle.hac_model.specs.declared.states.Body.TheVariants.{Semantic}
use Rattle.hac_model.specs.declared.states.State.{State}
use Rattle.hac_model.proofs.ChangeLemmas.{all-both, all-filter, all-weaker}
use Rattle.hac_model.proofs.BoolLemmas.{and-false, or-turned}

-- what is kept was there and passes
pub has-filter : (p : ℕ → Bool) (xs : List ℕ) (x : ℕ) → has (filter p xs) x ≡ (p x && has xs x)
has-filter p [] x = elim (p x) as (λ b. false ≡ (b && false)) [ true ↦ refl | false ↦ refl ]
has-filter p (y ∷ xs) x =
    elim (p y) as (λ b. p y ≡ b → has (cond b (y ∷ filter p xs) (filter p xs)) x ≡ (p x && (y == x || has xs x))) [
      | true ↦ (λ passes.
          elim (y == x) as (λ t. (y == x) ≡ t → (t || has (filter p xs) x) ≡ (p x && (t || has xs x))) [
            | true ↦ (λ same. let is : p x ≡ true = ap p (sym (eqb-true y x same)) ∙ passes in ap (λ (b : Bool). b && true) (sym is))
            | false ↦ (λ other. has-filter p xs x)
          ] refl)
      | false ↦ (λ fails.
          elim (y == x) as (λ t. (y == x) ≡ t → has (filter p xs) x ≡ (p x && (t || has xs x))) [
            | true ↦ (λ same. let not_it : p x ≡ false = ap p (sym (eqb-true y x same)) ∙ fails in has-filter p xs x ∙ ap (λ (b : Bool). b && has xs x) not_it ∙ ap (λ (b : Bool). b && true) (sym not_it))
            | false ↦ (λ other. has-filter p xs x)
          ] refl)
    ] refl

-- what was taken out isn't there
pub has-without : (n : ℕ) (xs : List ℕ) → has (without n xs) n ≡ false
has-without n xs = has-filter (λ other. not (other == n)) xs n ∙ ap (λ (b : Bool). not b && has xs n) (eq-eqb n n refl)

-- and what isn't there isn't there once another was taken out
pub absent-without : (n : ℕ) (xs : List ℕ) (m : ℕ) → has xs m ≡ false → has (without n xs) m ≡ false
absent-without n xs m absent = has-filter (λ other. not (other == n)) xs m ∙ ap (λ (b : Bool). not (m == n) && b) absent ∙ and-false (not (m == n))

pub has-put_in : (n : ℕ) (xs : List ℕ) (m : ℕ) → has (put_in n xs) m ≡ (n == m || has xs m)
has-put_in n [] m = refl
has-put_in n (x ∷ xs) m = elim (nat_lt n x) as (λ b. has (cond b (n ∷ x ∷ xs) (x ∷ put_in n xs)) m ≡ (n == m || (x == m || has xs m))) [
  | true ↦ refl
  | false ↦ ap (λ (b : Bool). x == m || b) (has-put_in n xs m) ∙ or-turned (x == m) (n == m) (has xs m)
]

pub all-put_in : (P : ℕ → Type 0) (n : ℕ) (xs : List ℕ) → P n → AllByRecursion P xs → AllByRecursion P (put_in n xs)
all-put_in P n [] p h = (p, tt)
all-put_in P n (x ∷ xs) p h = elim (nat_lt n x) as (λ b. AllByRecursion P (cond b (n ∷ x ∷ xs) (x ∷ put_in n xs))) [
  | true ↦ (p, h)
  | false ↦ (h.0, all-put_in P n xs p h.1)
]

-- all that a filter keeps passes
pub all-passes : (p : ℕ → Bool) (xs : List ℕ) → AllByRecursion (λ x. p x ≡ true) (filter p xs)
all-passes p [] = tt
all-passes p (x ∷ xs) = elim (p x) as (λ b. p x ≡ b → AllByRecursion (λ x. p x ≡ true) (cond b (x ∷ filter p xs) (filter p xs))) [
  | true ↦ (λ passes. (passes, all-passes p xs))
  | false ↦ (λ fails. all-passes p xs)
] refl

-- what holds of all in two ways holds in both
pub rise-lower : (low bound : ℕ) (xs : List ℕ) → low ≤ bound → RiseFrom bound xs → RiseFrom low xs
rise-lower low bound [] less h = tt
rise-lower low bound (x ∷ xs) less h = let first : bound ≤ x = h.0 in (omega arith, h.1)

-- what a filter leaves of rising numbers rises
pub rise-filter : (p : ℕ → Bool) (bound : ℕ) (xs : List ℕ) → RiseFrom bound xs → RiseFrom bound (filter p xs)
rise-filter p bound [] h = tt
rise-filter p bound (x ∷ xs) h =
    let first : bound ≤ x = h.0 in
    let rest = rise-filter p (x + 1) xs h.1 in
    elim (p x) as (λ b. RiseFrom bound (cond b (x ∷ filter p xs) (filter p xs))) [ true ↦ (first, rest) | false ↦ rise-lower bound (x + 1) (filter p xs) (omega arith) rest ]

rise-put_in : (n bound : ℕ) (xs : List ℕ) → bound ≤ n → has xs n ≡ false → RiseFrom bound xs → RiseFrom bound (put_in n xs)
rise-put_in n bound [] low absent h = (low, tt)
rise-put_in n bound (x ∷ xs) low absent h =
    let parts = or_parts (x == n) (has xs n) absent in
    elim (nat_lt n x) as (λ b. nat_lt n x ≡ b → RiseFrom bound (cond b (n ∷ x ∷ xs) (x ∷ put_in n xs))) [
      | true ↦ (λ less. (low, ((let above = ltb-true n x less in omega arith), h.1)))
      | false ↦ (λ more. (h.0, rise-put_in n (x + 1) xs (above (ltb-false n x more) (eqb-false x n parts.0)) parts.1 h.1))
    ] refl
  where
    above : x ≤ n → (x ≡ n → ⊥) → x + 1 ≤ n
    above less other = elim (cases_order x n) [
      | inl same ↦ absurd (other same)
      | inr (inl below) ↦ omega arith
      | inr (inr over) ↦ omega arith
    ]

-- marks stay marks where one goes
marks-without : (test : ℕ → Bool) (n : ℕ) (xs : List ℕ) → AreMarks test xs → AreMarks test (without n xs)
marks-without test n xs h = record {
  rise = rise-filter (λ other. not (other == n)) 0 xs h.rise;
  there = all-filter (λ x. test x ≡ true) (λ other. not (other == n)) xs h.there;
}

-- or one comes that isn't there
marks-put_in : (test : ℕ → Bool) (n : ℕ) (xs : List ℕ) → test n ≡ true → has xs n ≡ false → AreMarks test xs → AreMarks test (put_in n xs)
marks-put_in test n xs passes absent h = record {
  rise = rise-put_in n 0 xs (omega arith) absent h.rise;
  there = all-put_in (λ x. test x ≡ true) n xs passes h.there;
}

-- a directory asks well without an item's mark
pub forgetting-asks : (s : State) (n : ℕ) (body : Body) → AsksWell s body → AsksWell s (forgetting n body)
forgetting-asks s n (Semantic query permanent prohibited) h = record {
  fits = h.fits;
  added = marks-without (can_be_added s) n permanent h.added;
  removed = marks-without (is_item s) n prohibited h.removed;
  apart = all-filter (λ x. has (without n prohibited) x ≡ false) (λ other. not (other == n)) permanent (all-weaker (λ x. has prohibited x ≡ false) (λ x. has (without n prohibited) x ≡ false) permanent (λ x absent. absent-without n prohibited x absent) h.apart);
}
forgetting-asks s n other h = h

turned : (n x : ℕ) → (x == n) ≡ false → (n == x) ≡ false
turned n x other = ne_eqb n x (λ same. eqb-false x n other (sym same))

-- and with another one
pub marked-asks : (s : State) (n : ℕ) (kind : Kind) (body : Body) → can_have_mark s n kind ≡ true → AsksWell s body → AsksWell s (marked n kind body)
marked-asks s n kind (Semantic query permanent prohibited) can h = put kind can (forgetting-asks s n (Semantic query permanent prohibited) h)
  where
    ps : List ℕ
    ps = without n permanent

    xs : List ℕ
    xs = without n prohibited

    put : (kind : Kind) → can_have_mark s n kind ≡ true → IsSoundQuery s query ps xs → AsksWell s (marking n kind (Semantic query ps xs))
    put Permanent can k = record {
      fits = k.fits;
      added = marks-put_in (can_be_added s) n ps can (has-without n permanent) k.added;
      removed = k.removed;
      apart = all-put_in (λ x. has xs x ≡ false) n ps (has-without n prohibited) k.apart;
    }
    put Prohibited can k = record {
      fits = k.fits;
      added = k.added;
      removed = marks-put_in (is_item s) n xs can (has-without n prohibited) k.removed;
      apart = all-both (λ x. not (x == n) ≡ true) (λ x. has xs x ≡ false) (λ x. has (put_in n xs) x ≡ false) ps (λ x other absent. has-put_in n xs x ∙ ap (λ (b : Bool). b || has xs x) (turned n x (not-true (x == n) other)) ∙ absent) (all-passes (λ other. not (other == n)) permanent) k.apart;
    }
    put other can k = k
marked-asks s n Permanent other item h = h
marked-asks s n Prohibited other item h = h
marked-asks s n Transient other item h = h
marked-asks s n Unlinked other item h = h
