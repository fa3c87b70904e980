-- Lists of a directory that gets its marks one after the other.
use Rattle.std.proofs.Common.{◌≡◌, ℕ, ◌+◌, ◌<◌, ◌≤◌, false, List, [], ◌∷◌, ◌++◌, refl, ap, sym, ◌∙◌, arith}
use Rattle.std.specs.Prelude.{◌==◌, ◌||◌}
use Rattle.std.specs.List.{AllByRecursion}
use Rattle.std.proofs.lemmas.Bool.{or_parts}
use Rattle.std.proofs.lemmas.List.{append-nil}
use Rattle.hac_model.specs.Tree.Links.{has}
use Rattle.hac_model.specs.Tree.{permanent_in, prohibited_in}
use Rattle.hac_model.specs.Tree.Valid.{RiseFrom}
use Rattle.hac_model.specs.declared.marks.Kind.TheVariants.{Permanent, Prohibited}
use Rattle.hac_model.specs.declared.states.Body.{Body}
use Rattle.link_kinds.specs.Kinds.{Lists, no_lists}
use Rattle.set_pool.specs.Rising.{AllBelow, inserted, is_among, removed}
use Rattle.set_pool.proofs.RisingLemmas.{all-join, all-weaker, inserted-past}
use Rattle.snapshots.specs.Loading.{AreSoundIn, marked_all}

-- what comes behind all others is last
inserted-last : (x : ℕ) (xs : List ℕ) → AllBelow x xs → inserted x xs ≡ xs ++ x ∷ []
inserted-last x xs below = ap (λ (ys : List ℕ). inserted x ys) (sym (append-nil xs)) ∙ inserted-past x xs [] below

-- what isn't there doesn't go
removed-absent : (x : ℕ) (xs : List ℕ) → is_among x xs ≡ false → removed x xs ≡ xs
removed-absent x [] absent = refl
removed-absent x (y ∷ ys) absent =
    let parts = or_parts (x == y) (is_among x ys) absent in
    let other : (x == y) ≡ false = parts.0 in
    rw other (ap (λ (zs : List ℕ). y ∷ zs) (removed-absent x ys parts.1))

append-one : (xs ys : List ℕ) (x : ℕ) → (xs ++ x ∷ []) ++ ys ≡ xs ++ x ∷ ys
append-one [] ys x = refl
append-one (z ∷ xs) ys x = ap (λ (zs : List ℕ). z ∷ zs) (append-one xs ys x)

below-next : (x : ℕ) (xs : List ℕ) → AllBelow x xs → AllBelow (x + 1) (xs ++ x ∷ [])
below-next x xs below = all-join (λ y. y < x + 1) xs (x ∷ []) (all-weaker (λ y. y < x) (λ y. y < x + 1) (λ y less. omega arith) xs below) (omega arith, tt)

-- lists with these marks
abbrev with_marks : List ℕ → List ℕ → Lists
with_marks permanent prohibited = record { transient = []; permanent = permanent; prohibited = prohibited; lent = [] }

added-all : (bound : ℕ) (xs ys : List ℕ) → AllBelow bound ys → RiseFrom bound xs → marked_all Permanent xs (with_marks ys []) ≡ with_marks (ys ++ xs) []
added-all bound [] ys below rise = ap (λ (zs : List ℕ). with_marks zs []) (sym (append-nil ys))
added-all bound (x ∷ xs) ys below rise =
    let before : AllBelow x ys = all-weaker (λ y. y < bound) (λ y. y < x) (λ y less. let low : bound ≤ x = rise.0 in omega arith) ys below in
    ap (λ (zs : List ℕ). marked_all Permanent xs (with_marks zs [])) (inserted-last x ys before)
    ∙ added-all (x + 1) xs (ys ++ x ∷ []) (below-next x ys before) rise.1
    ∙ ap (λ (zs : List ℕ). with_marks zs []) (append-one ys xs x)

-- the numbers are of another list
abbrev AreAbsent : List ℕ → List ℕ → Type 0
AreAbsent permanent xs = AllByRecursion (λ x. is_among x permanent ≡ false) xs

removed-all : (permanent : List ℕ) (bound : ℕ) (xs ys : List ℕ) → AllBelow bound ys → RiseFrom bound xs → AreAbsent permanent xs → marked_all Prohibited xs (with_marks permanent ys) ≡ with_marks permanent (ys ++ xs)
removed-all permanent bound [] ys below rise absent = ap (λ (zs : List ℕ). with_marks permanent zs) (sym (append-nil ys))
removed-all permanent bound (x ∷ xs) ys below rise absent =
    let before : AllBelow x ys = all-weaker (λ y. y < bound) (λ y. y < x) (λ y less. let low : bound ≤ x = rise.0 in omega arith) ys below in
    (λ i. marked_all Prohibited xs (with_marks (removed-absent x permanent absent.0 i) (inserted-last x ys before i)))
    ∙ removed-all permanent (x + 1) xs (ys ++ x ∷ []) (below-next x ys before) rise.1 absent.1
    ∙ ap (λ (zs : List ℕ). with_marks permanent zs) (append-one ys xs x)

-- where no number of the one list is in the other, none of the other is in the one
none-back : (permanent prohibited : List ℕ) → AllByRecursion (λ number. has prohibited number ≡ false) permanent → AreAbsent permanent prohibited
none-back permanent [] apart = tt
none-back permanent (x ∷ xs) apart = (absent permanent apart, none-back permanent xs (fewer permanent apart))
  where
    parts : (y : ℕ) → has (x ∷ xs) y ≡ false → ((x == y) ≡ false) × (has xs y ≡ false)
    parts y h = or_parts (x == y) (has xs y) h

    absent : (ps : List ℕ) → AllByRecursion (λ number. has (x ∷ xs) number ≡ false) ps → is_among x ps ≡ false
    absent [] h = refl
    absent (p ∷ ps) h = λ i. (parts p h.0).0 i || absent ps h.1 i

    fewer : (ps : List ℕ) → AllByRecursion (λ number. has (x ∷ xs) number ≡ false) ps → AllByRecursion (λ number. has xs number ≡ false) ps
    fewer ps h = all-weaker (λ number. has (x ∷ xs) number ≡ false) (λ number. has xs number ≡ false) (λ y is. (parts y is).1) ps h

-- a directory that had none has the marks of the body
pub marks-given : (body : Body) → AreSoundIn body → marked_all Prohibited (prohibited_in body) (marked_all Permanent (permanent_in body) no_lists) ≡ with_marks (permanent_in body) (prohibited_in body)
marks-given body h =
    ap (λ (lists : Lists). marked_all Prohibited (prohibited_in body) lists) (added-all 0 (permanent_in body) [] tt h.added)
    ∙ removed-all (permanent_in body) 0 (prohibited_in body) [] tt h.removed (none-back (permanent_in body) (prohibited_in body) h.apart)
