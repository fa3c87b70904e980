-- What is found under names among numbers, and which numbers go.
use Rattle.std.proofs.Common.{◌≡◌, ℕ, zero, suc, ◌+◌, ◌<◌, Bool, true, false, cond, List, [], ◌∷◌, ◌++◌, length, take, get_or, refl, ap, sym, subst, ◌∙◌, arith, inl, inr, eq-eqb, add-one}
use Rattle.std.specs.Prelude.{◌&&◌, ◌||◌, ◌==◌, nat_eq, is_none, Option, Some}
use Rattle.std.specs.Str.{bytes_eq}
use Rattle.std.proofs.Math.Bool.{or-false}
use Rattle.std.proofs.Math.Seq.{take-suc}
use Rattle.std.proofs.lemmas.Bool.{cases_eq, ne_eqb}
use Rattle.std.proofs.lemmas.List.Folds.{list_any-append}
use Rattle.std.specs.Cmp.Lexicographic.{nat_list_eq_equiv}
use Rattle.hac_model.specs.Tree.Depends.{Among}
use Rattle.hac_model.specs.Tree.Links.{has}
use Rattle.hac_model.specs.Tree.Listing.{is_before}
use Rattle.std.specs.List.{AllByRecursion}
use Rattle.std.specs.Prelude.{IsTrue}
use Rattle.tree_nodes.specs.Documents.{is_dropped}
use Rattle.tree_nodes.specs.Search.{NamesRise, first_named}
use Rattle.tree_nodes.proofs.ListLemmas.{before-itself}
use Rattle.hac_model.proofs.AmongLemmas.{has-among}

-- equal names are found alike
pub found-same : (names other : ℕ → List ℕ) (ns : List ℕ) (x : List ℕ) → ((n : ℕ) → Among ns n → other n ≡ names n) → first_named other ns x ≡ first_named names ns x
found-same names other [] x same = refl
found-same names other (n ∷ ns) x same =
    ap (λ (y : List ℕ). cond (bytes_eq y x) (Some n) (first_named other ns x)) (same n (inl refl))
    ∙ ap (λ (o : Option ℕ). cond (bytes_eq (names n) x) (Some n) o) (found-same names other ns x (λ m among. same m (inr among)))

-- what is among them is found
pub found-own : (names : ℕ → List ℕ) (ns : List ℕ) (n : ℕ) → Among ns n → is_none (first_named names ns (names n)) ≡ false
found-own names [] n among = absurd among
found-own names (m ∷ ns) n (inl same) =
    ap (λ (b : Bool). is_none (cond b (Some m) (first_named names ns (names n)))) (ap (λ (k : ℕ). bytes_eq (names m) (names k)) (sym same) ∙ nat_list_eq_equiv.refl (names m))
found-own names (m ∷ ns) n (inr rest) = elim (bytes_eq (names m) (names n)) as (λ b. is_none (cond b (Some m) (first_named names ns (names n))) ≡ false) [
  | true ↦ refl
  | false ↦ found-own names ns n rest
]

-- and nothing else
pub has-not : (ns : List ℕ) (n : ℕ) → (Among ns n → ⊥) → has ns n ≡ false
has-not ns n absent = elim (has ns n) as (λ b. has ns n ≡ b → b ≡ false) [
  | true ↦ (λ is. absurd (absent (has-among ns n is)))
  | false ↦ (λ is. refl)
] refl

-- names that rise are each there once
absent-first : (names : ℕ → List ℕ) (n : ℕ) (ns : List ℕ) → AllByRecursion (λ m. IsTrue (is_before (names n) (names m))) ns → Among ns n → ⊥
absent-first names n [] all among = among
absent-first names n (m ∷ ns) all (inl same) =
    let never : is_before (names n) (names n) ≡ true = subst (λ (k : ℕ). is_before (names n) (names k) ≡ true) same all.0 in
    let none : is_before (names n) (names n) ≡ false = before-itself names (names n) in
    cc
absent-first names n (m ∷ ns) all (inr rest) = absent-first names n ns all.1 rest

all-at : (P : ℕ → Type 0) (ns : List ℕ) (i d : ℕ) → AllByRecursion P ns → i < length ns → P (get_or ns i d)
all-at P [] i d all inside = absurd (omega arith)
all-at P (n ∷ ns) zero d all inside = all.0
all-at P (n ∷ ns) (suc i) d all inside = all-at P ns i d all.1 (omega arith)

-- a number isn't among those before it
pub once : (names : ℕ → List ℕ) (ns : List ℕ) (i d : ℕ) → NamesRise names ns → i < length ns → has (take i ns) (get_or ns i d) ≡ false
once names [] i d rises inside = absurd (omega arith)
once names (n ∷ ns) zero d rises inside = refl
once names (n ∷ ns) (suc i) d rises inside =
    let later : is_before (names n) (names (get_or ns i d)) ≡ true = all-at (λ m. IsTrue (is_before (names n) (names m))) ns i d rises.0 (omega arith) in
    let other : (n == get_or ns i d) ≡ false = ne_eqb n (get_or ns i d) (λ same.
    let never : is_before (names n) (names n) ≡ true = subst (λ (k : ℕ). is_before (names n) (names k) ≡ true) (sym same) later in
    let none : is_before (names n) (names n) ≡ false = before-itself names (names n) in
    cc) in
    ap (λ (b : Bool). b || has (take i ns) (get_or ns i d)) other ∙ once names ns i d rises.1 (omega arith)

-- One number after the other goes, unless its name is kept.

module _ (names : ℕ → List ℕ) (ns kept : List ℕ) (i d : ℕ) (inside : i < length ns) (q : ℕ) where
  more-has : has (take (i + 1) ns) q ≡ (has (take i ns) q || (get_or ns i d == q))
  more-has =
      let more : take (i + 1) ns ≡ take i ns ++ get_or ns i d ∷ [] = rw add-one (take-suc ns i d inside) in
      ap (λ (ms : List ℕ). has ms q) more
      ∙ list_any-append (λ (other : ℕ). other == q) (take i ns) (get_or ns i d ∷ [])
      ∙ ap (λ (b : Bool). has (take i ns) q || b) (or-false (get_or ns i d == q))

  more-dropped : is_dropped names (take (i + 1) ns) kept q ≡ ((has (take i ns) q || (get_or ns i d == q)) && is_none (first_named names kept (names q)))
  more-dropped = ap (λ (b : Bool). b && is_none (first_named names kept (names q))) more-has

  -- what becomes of one number
  pub drop-more : {X : Type 0} (gone old now : X) (test : Bool) → test ≡ is_none (first_named names kept (names (get_or ns i d))) → now ≡ cond (is_dropped names (take i ns) kept q) gone old →
      cond (nat_eq (get_or ns i d) q && test) gone now ≡ cond (is_dropped names (take (i + 1) ns) kept q) gone old
  drop-more {X = X} gone old now test is told = elim (cases_eq (get_or ns i d) q) [
    | inl same ↦
        (let here : (get_or ns i d == q) ≡ true = eq-eqb (get_or ns i d) q same in
        let same_test : test ≡ is_none (first_named names kept (names q)) = is ∙ ap (λ (n : ℕ). is_none (first_named names kept (names n))) same in
        let left : cond (nat_eq (get_or ns i d) q && test) gone now ≡ cond test gone (cond (has (take i ns) q && test) gone old) =
        ap (λ (b : Bool). cond (b && test) gone now) here ∙ ap (λ (x : X). cond test gone x) (told ∙ ap (λ (b : Bool). cond (has (take i ns) q && b) gone old) (sym same_test)) in
        let right : cond (is_dropped names (take (i + 1) ns) kept q) gone old ≡ cond ((has (take i ns) q || true) && test) gone old =
        ap (λ (b : Bool). cond b gone old) more-dropped ∙ ap (λ (b : Bool). cond ((has (take i ns) q || b) && is_none (first_named names kept (names q))) gone old) here ∙ ap (λ (b : Bool). cond ((has (take i ns) q || true) && b) gone old) (sym same_test) in
        left ∙ by_cases gone old (has (take i ns) q) test ∙ sym right)
    | inr other ↦
        (let apart : (get_or ns i d == q) ≡ false = ne_eqb (get_or ns i d) q other in
        ap (λ (b : Bool). cond (b && test) gone now) apart ∙ told
        ∙ ap (λ (b : Bool). cond (b && is_none (first_named names kept (names q))) gone old) (sym (or-false (has (take i ns) q)))
        ∙ ap (λ (b : Bool). cond ((has (take i ns) q || b) && is_none (first_named names kept (names q))) gone old) (sym apart)
        ∙ ap (λ (b : Bool). cond b gone old) (sym more-dropped))
  ]
    where
      by_cases : {X : Type 0} (gone old : X) (h test : Bool) → cond test gone (cond (h && test) gone old) ≡ cond ((h || true) && test) gone old
      by_cases gone old true true = refl
      by_cases gone old true false = refl
      by_cases gone old false true = refl
      by_cases gone old false false = refl

  -- what isn't dropped wasn't, and isn't this one
  pub drop-none : (test : Bool) → test ≡ is_none (first_named names kept (names (get_or ns i d))) → is_dropped names (take (i + 1) ns) kept q ≡ false →
      ((nat_eq (get_or ns i d) q && test) ≡ false) × (is_dropped names (take i ns) kept q ≡ false)
  drop-none test is none = (
    by_true (nat_eq (get_or ns i d) q && test) (drop-more true false (is_dropped names (take i ns) kept q) test is (same_bool (is_dropped names (take i ns) kept q)) ∙ ap (λ (b : Bool). cond b true false) none),
    earlier (has (take i ns) q) (get_or ns i d == q) (is_none (first_named names kept (names q))) (sym more-dropped ∙ none),
  )
    where
      same_bool : (b : Bool) → b ≡ cond b true false
      same_bool true = refl
      same_bool false = refl

      by_true : (b : Bool) → cond b true (is_dropped names (take i ns) kept q) ≡ false → b ≡ false
      by_true true never = absurd cc
      by_true false h = refl

      earlier : (h e test : Bool) → ((h || e) && test) ≡ false → (h && test) ≡ false
      earlier true e test none = none
      earlier false e test none = refl
