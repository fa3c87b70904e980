-- Entries in order of their paths.
use Rattle.std.proofs.Common.{◌≡◌, ℕ, ◌+◌, ◌<◌, ◌≤◌, Bool, true, false, cond, List, [], ◌∷◌, ◌++◌, refl, ap, sym, ◌∙◌, arith}
use Rattle.std.specs.Prelude.{◌==◌, filter, if◌then◌else◌, sum_by, Some, None}
use Rattle.std.specs.List.{AllByRecursion, flat_map}
use Rattle.std.specs.Cmp.Lexicographic.{slice_cmp}
use Rattle.std.specs.Ordering.{nat_cmp, is_lt, ordering_then}
use Rattle.std.specs.declared.cmp.Ordering.{Ordering}
use Rattle.std.specs.declared.cmp.Ordering.TheVariants.{Equal}
use Rattle.std.proofs.lemmas.Bool.{eqb-true, ne_eqb}
use Rattle.std.proofs.lemmas.Bool.Decides.{nat_tests}
use Rattle.std.proofs.lemmas.List.Concat.{flat_map-append}
use Rattle.std.proofs.lemmas.List.Sums.{sum_by-cons}
use Rattle.std.proofs.lemmas.Slice.Eq.{bytes_eq-Decides}
use Rattle.hac_model.specs.Tree.Listing.{is_before}
use Rattle.hac_model.specs.Tree.Paths.{path_text, slashed}
use Rattle.hac_model.specs.Tree.{entry_at, path_of}
use Rattle.hac_model.specs.Tree.Valid.{NumbersRise}
use Rattle.hac_model.specs.declared.states.Entry.{Entry}
use Rattle.hac_model.specs.declared.states.State.{State}
use Rattle.hac_model.proofs.NameOrderLemmas.{before-differs, before-trans}
use Rattle.hac_model.specs.Script.Dump.{by_path, is_path_before, put_by_path}

-- ---- the order

cmp-same : (x : ℕ) → nat_cmp x x ≡ Equal
cmp-same x = grind (arith, nat_tests)

-- what goes on comes later
pub before-longer : (xs : List ℕ) (y : ℕ) (ys : List ℕ) → is_before xs (xs ++ y ∷ ys) ≡ true
before-longer [] y ys = refl
before-longer (x ∷ xs) y ys = ap (λ (o : Ordering). is_lt (ordering_then o (slice_cmp nat_cmp xs (xs ++ y ∷ ys)))) (cmp-same x) ∙ before-longer xs y ys

-- nothing comes before itself
before-itself : (x : List ℕ) → is_before x x ≡ false
before-itself x = at (is_before x x) refl
  where
    at : (b : Bool) → is_before x x ≡ b → b ≡ false
    at false is = refl
    at true is = let never : true ≡ false = sym ((bytes_eq-Decides x x).1 refl) ∙ before-differs x x is in absurd cc

before-never : (x y : List ℕ) → is_before x y ≡ true → is_before y x ≡ false
before-never x y less = at (is_before y x) refl
  where
    at : (b : Bool) → is_before y x ≡ b → b ≡ false
    at false is = refl
    at true is = let never : true ≡ false = sym (before-trans x y x less is) ∙ before-itself x in absurd cc

-- a path comes before one that goes on from it
pub parent-before : (path : List (List ℕ)) (name : List ℕ) → (path ≡ [] → ⊥) → is_before (path_text path) (path_text (path ++ name ∷ [])) ≡ true
parent-before [] name some = absurd (some refl)
parent-before (first ∷ path) name some =
    ap (λ (t : List ℕ). is_before (flat_map slashed (first ∷ path)) t) (flat_map-append slashed (first ∷ path) (name ∷ []))
    ∙ before-longer (flat_map slashed (first ∷ path)) 47 (name ++ [])

module _ (s : State) where
  -- none of those behind an entry comes before it
  abbrev pub Sorted : List Entry → Type 0
  Sorted [] = Unit {0}
  Sorted (e ∷ es) = AllByRecursion (λ f. is_path_before s f e ≡ false) es × Sorted es

  all-put : (P : Entry → Type 0) (e : Entry) (es : List Entry) → P e → AllByRecursion P es → AllByRecursion P (put_by_path s e es)
  all-put P e [] h k = (h, tt)
  all-put P e (x ∷ es) h k = elim (is_path_before s e x) as (λ b. AllByRecursion P (if b then e ∷ x ∷ es else x ∷ put_by_path s e es)) [
    | true ↦ (h, k)
    | false ↦ (k.0, all-put P e es h k.1)
  ]

  pub all-sorted : (P : Entry → Type 0) (es : List Entry) → AllByRecursion P es → AllByRecursion P (by_path s es)
  all-sorted P [] h = tt
  all-sorted P (e ∷ es) h = all-put P e (by_path s es) h.0 (all-sorted P es h.1)

  put-sorted : (e : Entry) (es : List Entry) → Sorted es → Sorted (put_by_path s e es)
  put-sorted e [] h = (tt, tt)
  put-sorted e (x ∷ es) h = elim (is_path_before s e x) as (λ b. is_path_before s e x ≡ b → Sorted (if b then e ∷ x ∷ es else x ∷ put_by_path s e es)) [
    | true ↦ (λ less. ((before-never (path_text (path_of s e.number)) (path_text (path_of s x.number)) less, later less es h.0), h))
    | false ↦ (λ more. (all-put (λ f. is_path_before s f x ≡ false) e es more h.0, put-sorted e es h.1))
  ] refl
    where
      later : is_path_before s e x ≡ true → (es : List Entry) → AllByRecursion (λ f. is_path_before s f x ≡ false) es → AllByRecursion (λ f. is_path_before s f e ≡ false) es
      later less [] h = tt
      later less (f ∷ es) h = (one (is_path_before s f e) refl, later less es h.1)
        where
          one : (b : Bool) → is_path_before s f e ≡ b → b ≡ false
          one false is = refl
          one true is = sym (before-trans (path_text (path_of s f.number)) (path_text (path_of s e.number)) (path_text (path_of s x.number)) is less) ∙ h.0

  pub sorted : (es : List Entry) → Sorted (by_path s es)
  sorted [] = tt
  sorted (e ∷ es) = put-sorted e (by_path s es) (sorted es)

  put-sum : (f : Entry → ℕ) (e : Entry) (es : List Entry) → sum_by f (put_by_path s e es) ≡ f e + sum_by f es
  put-sum f e [] = sum_by-cons f e []
  put-sum f e (x ∷ es) = elim (is_path_before s e x) as (λ b. sum_by f (if b then e ∷ x ∷ es else x ∷ put_by_path s e es) ≡ f e + sum_by f (x ∷ es)) [
    | true ↦ sum_by-cons f e (x ∷ es)
    | false ↦ omega (arith, sum_by-cons f x (put_by_path s e es), put-sum f e es, sum_by-cons f x es)
  ]

  -- sorting loses and adds nothing
  pub sorted-sum : (f : Entry → ℕ) (es : List Entry) → sum_by f (by_path s es) ≡ sum_by f es
  sorted-sum f [] = refl
  sorted-sum f (e ∷ es) = omega (arith, put-sum f e (by_path s es), sorted-sum f es, sum_by-cons f e es)

-- ---- sums

pub filter-sum : (f : Entry → ℕ) (p : Entry → Bool) (es : List Entry) → sum_by f (filter p es) ≡ sum_by (λ e. if p e then f e else 0) es
filter-sum f p [] = refl
filter-sum f p (e ∷ es) = elim (p e) as (λ b. p e ≡ b → sum_by f (if b then e ∷ filter p es else filter p es) ≡ sum_by (λ e. if p e then f e else 0) (e ∷ es)) [
  | true ↦ (λ is. let here : (if p e then f e else 0) ≡ f e = ap (λ (b : Bool). if b then f e else 0) is in omega (arith, sum_by-cons f e (filter p es), filter-sum f p es, sum_by-cons (λ e. if p e then f e else 0) e es, here))
  | false ↦ (λ is. let here : (if p e then f e else 0) ≡ 0 = ap (λ (b : Bool). if b then f e else 0) is in omega (arith, filter-sum f p es, sum_by-cons (λ e. if p e then f e else 0) e es, here))
] refl

-- four measures that come to one, entry by entry
pub four-sums : (a b c d f : Entry → ℕ) (es : List Entry) → AllByRecursion (λ e. a e + b e + c e + d e ≡ f e) es → sum_by a es + sum_by b es + sum_by c es + sum_by d es ≡ sum_by f es
four-sums a b c d f [] h = refl
four-sums a b c d f (e ∷ es) h = omega (arith, sum_by-cons a e es, sum_by-cons b e es, sum_by-cons c e es, sum_by-cons d e es, sum_by-cons f e es, h.0, four-sums a b c d f es h.1)

pub sum-part : (f : Entry → ℕ) (es : List Entry) (n : ℕ) (e : Entry) → entry_at es n ≡ Some e → f e ≤ sum_by f es
sum-part f [] n e found = absurd cc
sum-part f (x ∷ es) n e found = elim (x.number == n) as (λ b. cond b (Some x) (entry_at es n) ≡ Some e → f e ≤ sum_by f (x ∷ es)) [
  | true ↦ (λ found. let same : x ≡ e = cc in let even : f x ≡ f e = ap f same in omega (arith, sum_by-cons f x es, even))
  | false ↦ (λ found. omega (arith, sum_by-cons f x es, sum-part f es n e found))
] found

-- how many entries have a number
abbrev pub of_number : ℕ → Entry → ℕ
of_number n e = if e.number == n then 1 else 0

pub number-found : (es : List Entry) (n : ℕ) → 1 ≤ sum_by (of_number n) es → (e : Entry) × (entry_at es n ≡ Some e)
number-found [] n some = absurd (omega (arith, some))
number-found (x ∷ es) n some = elim (x.number == n) as (λ b. (x.number == n) ≡ b → (e : Entry) × (cond b (Some x) (entry_at es n) ≡ Some e)) [
  | true ↦ (λ _. (x, refl))
  | false ↦ (λ other. number-found es n (let here : of_number n x ≡ 0 = ap (λ (b : Bool). cond {A = ℕ} b 1 0) other in omega (arith, some, sum_by-cons (of_number n) x es, here)))
] refl

pub number-none : (es : List Entry) (n : ℕ) → sum_by (of_number n) es ≡ 0 → entry_at es n ≡ None
number-none [] n none = refl
number-none (x ∷ es) n none = elim (x.number == n) as (λ b. (x.number == n) ≡ b → cond b (Some x) (entry_at es n) ≡ None) [
  | true ↦ (λ here. let one : of_number n x ≡ 1 = ap (λ (b : Bool). cond {A = ℕ} b 1 0) here in absurd (omega (arith, none, sum_by-cons (of_number n) x es, one)))
  | false ↦ (λ _. number-none es n (omega (arith, none, sum_by-cons (of_number n) x es)))
] refl

none-below : (above : ℕ) (es : List Entry) (next n : ℕ) → NumbersRise above es next → n ≤ above → sum_by (of_number n) es ≡ 0
none-below above [] next n rise low = refl
none-below above (e ∷ es) next n rise low =
    let first : above < e.number = rise.0 in
    let here : of_number n e ≡ 0 = ap (λ (b : Bool). cond {A = ℕ} b 1 0) (ne_eqb e.number n (λ same. omega (arith, first, low, same))) in
    omega (arith, sum_by-cons (of_number n) e es, here, none-below e.number es next n rise.1 (omega (arith, first, low)))

-- in a tree none has two
pub number-once : (above : ℕ) (es : List Entry) (next n : ℕ) → NumbersRise above es next → sum_by (of_number n) es ≤ 1
number-once above [] next n rise = omega arith
number-once above (e ∷ es) next n rise = elim (e.number == n) as (λ b. (e.number == n) ≡ b → sum_by (of_number n) (e ∷ es) ≤ 1) [
  | true ↦ (λ same.
      let here : of_number n e ≡ 1 = ap (λ (b : Bool). cond {A = ℕ} b 1 0) same in
      let even : e.number ≡ n = eqb-true e.number n same in
      omega (arith, sum_by-cons (of_number n) e es, here, none-below e.number es next n rise.1 (omega (arith, even))))
  | false ↦ (λ other.
      let here : of_number n e ≡ 0 = ap (λ (b : Bool). cond {A = ℕ} b 1 0) other in
      omega (arith, sum_by-cons (of_number n) e es, here, number-once e.number es next n rise.1))
] refl
