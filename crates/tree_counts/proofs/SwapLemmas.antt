-- As many documents go, and names come, as the names of a mount and those of its space tell.
use Rattle.std.proofs.Common.{◌≡◌, ℕ, ◌+◌, Bool, true, false, cond, List, [], ◌∷◌, length, map, subst, refl, ap, sym, ◌∙◌, arith}
use Rattle.std.specs.Prelude.{◌==◌, ◌&&◌, ◌||◌, not, filter, is_none, Option, Some, None}
use Rattle.std.specs.List.{list_all, list_any}
use Rattle.std.specs.Str.{bytes_eq}
use Rattle.std.specs.Cmp.Lexicographic.{nat_list_eq_equiv}
use Rattle.std.proofs.lemmas.Bool.{and_parts, eqb-true, not-true}
use Rattle.std.proofs.lemmas.Slice.Eq.{bytes_eq-Decides}
use Rattle.hac_model.specs.Tree.Listing.{is_before}
use Rattle.hac_model.specs.Tree.Mounting.{do_names_rise, is_among, is_gone}
use Rattle.hac_model.specs.Tree.{child, is_document}
use Rattle.hac_model.specs.Tree.Valid.{NamesDiffer}
use Rattle.std.specs.List.{AllByRecursion}
use Rattle.hac_model.specs.declared.states.Entry.{Entry}
use Rattle.tree_nodes.specs.Documents.{unknown}
use Rattle.hac_model.proofs.NameOrderLemmas.{before-differs}
use Rattle.hac_model.proofs.BoolLemmas.{and-false}

-- each is there once
abbrev pub AreApart : List (List ℕ) → Type 0
AreApart [] = Unit {0}
AreApart (x ∷ xs) = (is_among xs x ≡ false) × AreApart xs

-- how many of the names pass a test
abbrev pub passing : (List ℕ → Bool) → List (List ℕ) → ℕ
passing test xs = length (filter test xs)

pub passing-split : (test : List ℕ → Bool) (xs : List (List ℕ)) → passing (λ x. not (test x)) xs + passing test xs ≡ length xs
passing-split test [] = omega arith
passing-split test (x ∷ xs) = elim (test x) as (λ b. length (cond (not b) (x ∷ filter (λ x. not (test x)) xs) (filter (λ x. not (test x)) xs)) + length (cond b (x ∷ filter test xs) (filter test xs)) ≡ length (x ∷ xs)) [
  | true ↦ omega (arith, passing-split test xs)
  | false ↦ omega (arith, passing-split test xs)
]

pub passing-same : (p q : List ℕ → Bool) (xs : List (List ℕ)) → ((x : List ℕ) → p x ≡ q x) → passing p xs ≡ passing q xs
passing-same p q [] same = refl
passing-same p q (x ∷ xs) same =
    ap (λ (b : Bool). length (cond b (x ∷ filter p xs) (filter p xs))) (same x)
    ∙ (elim (q x) as (λ b. length (cond b (x ∷ filter p xs) (filter p xs)) ≡ length (cond b (x ∷ filter q xs) (filter q xs))) [
      | true ↦ omega (arith, passing-same p q xs same)
      | false ↦ passing-same p q xs same
    ])

none-passing : (xs : List (List ℕ)) → passing (is_among []) xs ≡ 0
none-passing [] = refl
none-passing (x ∷ xs) = none-passing xs

-- one name is there once or not at all
absent-passing : (a : List ℕ) (xs : List (List ℕ)) → is_among xs a ≡ false → passing (λ x. bytes_eq x a) xs ≡ 0
absent-passing a [] out = refl
absent-passing a (x ∷ xs) out = elim (bytes_eq a x) as (λ b. bytes_eq a x ≡ b → (b || list_any (bytes_eq a) xs) ≡ false → passing (λ x. bytes_eq x a) (x ∷ xs) ≡ 0) [
  | true ↦ (λ same never. absurd cc)
  | false ↦ (λ other out.
      ap (λ (b : Bool). length (cond b (x ∷ filter (λ x. bytes_eq x a) xs) (filter (λ x. bytes_eq x a) xs))) (nat_list_eq_equiv.symm x a ∙ other) ∙ absent-passing a xs out)
] refl out

one-passing : (a : List ℕ) (xs : List (List ℕ)) → AreApart xs → passing (λ x. bytes_eq x a) xs ≡ cond {A = ℕ} (is_among xs a) 1 0
one-passing a [] apart = refl
one-passing a (x ∷ xs) apart = elim (bytes_eq a x) as (λ b. bytes_eq a x ≡ b → passing (λ x. bytes_eq x a) (x ∷ xs) ≡ cond {A = ℕ} (b || list_any (bytes_eq a) xs) 1 0) [
  | true ↦ (λ same.
      let out : is_among xs a ≡ false = ap (λ (y : List ℕ). is_among xs y) ((bytes_eq-Decides a x).0 same) ∙ apart.0 in
      let one : length (x ∷ filter (λ x. bytes_eq x a) xs) ≡ 1 = omega (arith, absent-passing a xs out) in
      ap (λ (b : Bool). length (cond b (x ∷ filter (λ x. bytes_eq x a) xs) (filter (λ x. bytes_eq x a) xs))) (nat_list_eq_equiv.symm x a ∙ same) ∙ one)
  | false ↦ (λ other.
      ap (λ (b : Bool). length (cond b (x ∷ filter (λ x. bytes_eq x a) xs) (filter (λ x. bytes_eq x a) xs))) (nat_list_eq_equiv.symm x a ∙ other) ∙ one-passing a xs apart.1)
] refl

-- what is among names is the first one, or among the others
more-passing : (a : List ℕ) (as_ xs : List (List ℕ)) → is_among as_ a ≡ false → passing (is_among (a ∷ as_)) xs ≡ passing (λ x. bytes_eq x a) xs + passing (is_among as_) xs
more-passing a as_ [] out = omega arith
more-passing a as_ (x ∷ xs) out = elim (bytes_eq x a) as (λ b. bytes_eq x a ≡ b → length (cond (b || is_among as_ x) (x ∷ filter (is_among (a ∷ as_)) xs) (filter (is_among (a ∷ as_)) xs)) ≡ length (cond b (x ∷ filter (λ x. bytes_eq x a) xs) (filter (λ x. bytes_eq x a) xs)) + length (cond (is_among as_ x) (x ∷ filter (is_among as_) xs) (filter (is_among as_) xs))) [
  | true ↦ (λ same.
      let none : is_among as_ x ≡ false = ap (λ (y : List ℕ). is_among as_ y) ((bytes_eq-Decides x a).0 same) ∙ out in
      let sum : length (x ∷ filter (is_among (a ∷ as_)) xs) ≡ length (x ∷ filter (λ x. bytes_eq x a) xs) + length (filter (is_among as_) xs) = omega (arith, more-passing a as_ xs out) in
      sum ∙ ap (λ (b : Bool). length (x ∷ filter (λ x. bytes_eq x a) xs) + length (cond b (x ∷ filter (is_among as_) xs) (filter (is_among as_) xs))) (sym none))
  | false ↦ (λ other. elim (is_among as_ x) as (λ b. length (cond b (x ∷ filter (is_among (a ∷ as_)) xs) (filter (is_among (a ∷ as_)) xs)) ≡ length (filter (λ x. bytes_eq x a) xs) + length (cond b (x ∷ filter (is_among as_) xs) (filter (is_among as_) xs))) [
    | true ↦ omega (arith, more-passing a as_ xs out)
    | false ↦ more-passing a as_ xs out
  ])
] refl

-- as many of the ones are among the others as the other way round
pub passing-swapped : (as_ xs : List (List ℕ)) → AreApart as_ → AreApart xs → passing (is_among xs) as_ ≡ passing (is_among as_) xs
passing-swapped [] xs apart others = sym (none-passing xs)
passing-swapped (a ∷ as_) xs apart others =
    let rest : passing (is_among xs) as_ ≡ passing (is_among as_) xs = passing-swapped as_ xs apart.1 others in
    (elim (is_among xs a) as (λ b. length (cond b (a ∷ filter (is_among xs) as_) (filter (is_among xs) as_)) ≡ cond {A = ℕ} b 1 0 + passing (is_among as_) xs) [
      | true ↦ omega arith
      | false ↦ omega arith
    ])
    ∙ ap (λ (k : ℕ). k + passing (is_among as_) xs) (sym (one-passing a xs others))
    ∙ sym (more-passing a as_ xs apart.0)

-- Names that rise, and names of a directory.

rise-apart-first : (x : List ℕ) (xs : List (List ℕ)) → list_all (is_before x) xs ≡ true → is_among xs x ≡ false
rise-apart-first x [] all = refl
rise-apart-first x (y ∷ ys) all =
    let parts = and_parts (is_before x y) (list_all (is_before x) ys) all in
    ap (λ (b : Bool). b || list_any (bytes_eq x) ys) (before-differs x y parts.0) ∙ rise-apart-first x ys parts.1

pub rise-apart : (xs : List (List ℕ)) → do_names_rise xs ≡ true → AreApart xs
rise-apart [] rise = tt
rise-apart (x ∷ xs) rise = let parts = and_parts (list_all (is_before x) xs) (do_names_rise xs) rise in (rise-apart-first x xs parts.0, rise-apart xs parts.1)

module _ (mount : ℕ) where
  -- the names of what is in a directory
  abbrev pub names_in : List Entry → List (List ℕ)
  names_in es = map (λ (e : Entry). e.name) (filter (λ (e : Entry). e.parent == mount) es)

  pub child-among : (es : List Entry) (x : List ℕ) → is_none (child es mount x) ≡ not (is_among (names_in es) x)
  child-among [] x = refl
  child-among (e ∷ es) x = elim (e.parent == mount) as (λ b. is_none (cond (b && bytes_eq e.name x) (Some e.number) (child es mount x)) ≡ not (is_among (map (λ (e : Entry). e.name) (cond b (e ∷ filter (λ (e : Entry). e.parent == mount) es) (filter (λ (e : Entry). e.parent == mount) es))) x)) [
    | true ↦
        ap (λ (b : Bool). is_none (cond b (Some e.number) (child es mount x))) (nat_list_eq_equiv.symm e.name x)
        ∙ (elim (bytes_eq x e.name) as (λ b. is_none (cond b (Some e.number) (child es mount x)) ≡ not (b || is_among (names_in es) x)) [ true ↦ refl | false ↦ child-among es x ])
    | false ↦ child-among es x
  ]

  pub names-apart : (es : List Entry) → NamesDiffer es → AreApart (names_in es)
  names-apart [] differ = tt
  names-apart (e ∷ es) differ = elim (e.parent == mount) as (λ b. (e.parent == mount) ≡ b → AreApart (map (λ (e : Entry). e.name) (cond b (e ∷ filter (λ (e : Entry). e.parent == mount) es) (filter (λ (e : Entry). e.parent == mount) es)))) [
    | true ↦ (λ here.
        let none : child es mount e.name ≡ None = subst (λ (d : ℕ). child es d e.name ≡ None) (eqb-true e.parent mount here) differ.0 in
        (not-true (is_among (names_in es) e.name) (sym (child-among es e.name) ∙ ap (λ (o : Option ℕ). is_none o) none), names-apart es differ.1))
    | false ↦ (λ other. names-apart es differ.1)
  ] refl

  -- the documents that go
  gone-passing : (xs : List (List ℕ)) (es : List Entry) → AllByRecursion (λ (e : Entry). (e.parent == mount) ≡ true → is_document e.body ≡ true) es → length (filter (is_gone mount xs) es) ≡ passing (λ x. not (is_among xs x)) (names_in es)
  gone-passing xs [] all = refl
  gone-passing xs (e ∷ es) all = elim (e.parent == mount) as (λ b. (b ≡ true → is_document e.body ≡ true) → length (cond (is_document e.body && (b && not (is_among xs e.name))) (e ∷ filter (is_gone mount xs) es) (filter (is_gone mount xs) es)) ≡ passing (λ x. not (is_among xs x)) (map (λ (e : Entry). e.name) (cond b (e ∷ filter (λ (e : Entry). e.parent == mount) es) (filter (λ (e : Entry). e.parent == mount) es)))) [
    | true ↦ (λ document.
        ap (λ (b : Bool). length (cond (b && not (is_among xs e.name)) (e ∷ filter (is_gone mount xs) es) (filter (is_gone mount xs) es))) (document refl)
        ∙ (elim (not (is_among xs e.name)) as (λ b. length (cond b (e ∷ filter (is_gone mount xs) es) (filter (is_gone mount xs) es)) ≡ length (cond b (e.name ∷ filter (λ x. not (is_among xs x)) (names_in es)) (filter (λ x. not (is_among xs x)) (names_in es)))) [
          | true ↦ omega (arith, gone-passing xs es all.1)
          | false ↦ gone-passing xs es all.1
        ]))
    | false ↦ (λ document. ap (λ (b : Bool). length (cond b (e ∷ filter (is_gone mount xs) es) (filter (is_gone mount xs) es))) (and-false (is_document e.body)) ∙ gone-passing xs es all.1)
  ] all.0

  -- what goes and what is there then are what was there and what comes
  pub gone-and-new : (xs : List (List ℕ)) (es : List Entry) → NamesDiffer es → do_names_rise xs ≡ true → AllByRecursion (λ (e : Entry). (e.parent == mount) ≡ true → is_document e.body ≡ true) es →
      length (filter (is_gone mount xs) es) + length xs ≡ length (names_in es) + length (unknown (child es mount) xs)
  gone-and-new xs es differ rise all =
      let gone = gone-passing xs es all in
      let stay = passing-split (is_among xs) (names_in es) in
      let swap = passing-swapped (names_in es) xs (names-apart es differ) (rise-apart xs rise) in
      let fresh : length (unknown (child es mount) xs) ≡ passing (λ x. not (is_among (names_in es) x)) xs = passing-same (λ x. is_none (child es mount x)) (λ x. not (is_among (names_in es) x)) xs (child-among es) in
      let known = passing-split (is_among (names_in es)) xs in
      omega (arith, gone, stay, swap, fresh, known)
