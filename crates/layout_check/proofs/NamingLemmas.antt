-- No two entries of a directory have one name, told by a set of the places that are taken.
use Rattle.std.proofs.Common.{◌≡◌, ℕ, Bool, true, false, cond, List, [], ◌∷◌, Bor, Ordering, refl, ap, sym, ◌∙◌, arith}
use Rattle.std.specs.Prelude.{◌==◌, ◌&&◌, ◌||◌, not, Some, is_none}
use Rattle.std.specs.BTreeSet.{BTreeSet, Updates, contains, contains_by}
use Rattle.std.specs.List.{list_all}
use Rattle.std.specs.Str.{bytes_eq}
use Rattle.std.specs.Ordering.{is_eq, nat_cmp, ordering_then}
use Rattle.std.specs.declared.cmp.Ordering.TheVariants.{Less, Equal, Greater}
use Rattle.std.specs.Cmp.Lexicographic.{nat_list_eq_equiv, slice_cmp, texts_ties}
use Rattle.std.proofs.lemmas.Bool.Decides.{nat_tests}
use Rattle.hac_model.specs.Tree.{child}
use Rattle.hac_model.specs.Tree.ValidTest.{do_names_differ}
use Rattle.hac_model.specs.declared.states.Entry.{Entry}

-- places are compared by the directory's number and then by the name
abbrev pub place_cmp : ℕ × Bor (List ℕ) → ℕ × Bor (List ℕ) → Ordering
place_cmp = λ x y. ordering_then (nat_cmp x.0 y.0) (slice_cmp nat_cmp x.1.now y.1.now)

-- the set has the place of a name in a directory
abbrev pub has_place : BTreeSet (ℕ × Bor (List ℕ)) → ℕ → List ℕ → Bool
has_place places dir name =
    contains_by (λ place. ordering_then (nat_cmp dir place.0) (slice_cmp nat_cmp name place.1.now)) places

-- the set has the place of the entry
abbrev pub is_taken : BTreeSet (ℕ × Bor (List ℕ)) → Entry → Bool
is_taken places entry = has_place places entry.parent entry.name

-- the entries have places that aren't taken, each another
abbrev pub are_free : (Entry → Bool) → List Entry → Bool
are_free taken entries = list_all (λ entry. not (taken entry)) entries && do_names_differ entries

-- both entries have one place
abbrev is_same : Entry → Entry → Bool
is_same entry other = other.parent == entry.parent && bytes_eq other.name entry.name

pub free-begins :
    (taken : Entry → Bool) (es : List Entry) → ((x : Entry) → taken x ≡ false) → are_free taken es ≡ do_names_differ es
free-begins taken es none = ap (λ (b : Bool). b && do_names_differ es) (all-free es)
  where
    all-free : (es : List Entry) → list_all (λ entry. not (taken entry)) es ≡ true
    all-free [] = refl
    all-free (e ∷ es) = rw (none e) (all-free es)

pub free-taken : (taken : Entry → Bool) (e : Entry) (es : List Entry) → taken e ≡ true → are_free taken (e ∷ es) ≡ false
free-taken taken e es h = rw h refl

child-free : (e : Entry) (es : List Entry) → is_none (child es e.parent e.name) ≡ list_all (λ x. not (is_same e x)) es
child-free e [] = refl
child-free e (x ∷ es) =
    elim (is_same e x) as (λ b.
    is_none (cond b (Some x.number) (child es e.parent e.name)) ≡ (not b && list_all (λ x. not (is_same e x)) es)) [
      | true ↦ refl
      | false ↦ child-free e es
    ]

parted : (a b p q : Bool) → ((not (a || b)) && (p && q)) ≡ ((not b && p) && (not a && q))
parted true true p q = refl
parted true false true q = refl
parted true false false q = refl
parted false true p q = refl
parted false false p q = refl

-- an entry whose place was free takes it
pub free-more :
    (taken next : Entry → Bool) (e : Entry) (es : List Entry) → taken e ≡ false →
    ((x : Entry) → next x ≡ (is_same e x || taken x)) → are_free taken (e ∷ es) ≡ are_free next es
free-more taken next e es h step =
    rw (h, child-free e es)
    (joined (list_all (λ x. not (taken x)) es) (list_all (λ x. not (is_same e x)) es) (do_names_differ es)
    ∙ ap (λ (b : Bool). b && do_names_differ es) (sym (both es)))
  where
    joined : (a b c : Bool) → (a && (b && c)) ≡ ((a && b) && c)
    joined true b c = refl
    joined false b c = refl

    both :
        (es : List Entry) →
        list_all (λ x. not (next x)) es ≡ (list_all (λ x. not (taken x)) es && list_all (λ x. not (is_same e x)) es)
    both [] = refl
    both (x ∷ es) =
        rw (step x, both es)
        (parted (is_same e x) (taken x) (list_all (λ x. not (taken x)) es) (list_all (λ x. not (is_same e x)) es))

same-numbers : (a b : ℕ) → is_eq (nat_cmp a b) ≡ (b == a)
same-numbers a b = grind (arith, nat_tests)

same-places :
    (a b : ℕ) (m n : List ℕ) →
    is_eq (ordering_then (nat_cmp a b) (slice_cmp nat_cmp m n)) ≡ (b == a && bytes_eq n m)
same-places a b m n = by-first (nat_cmp a b) (same-numbers a b)
  where
    by-first :
        (o : Ordering) → is_eq o ≡ (b == a) →
        is_eq (ordering_then o (slice_cmp nat_cmp m n)) ≡ (b == a && bytes_eq n m)
    by-first Less h = ap (λ (t : Bool). t && bytes_eq n m) h
    by-first Equal h = sym (texts_ties m n) ∙ nat_list_eq_equiv.symm m n ∙ ap (λ (t : Bool). t && bytes_eq n m) h
    by-first Greater h = ap (λ (t : Bool). t && bytes_eq n m) h

cond-or : (a b : Bool) → cond a true b ≡ (a || b)
cond-or true b = refl
cond-or false b = refl

-- a set has the place of an entry
pub taken-is :
    (places : BTreeSet (ℕ × Bor (List ℕ))) (e : Entry) (dir : ℕ) (name : Bor (List ℕ)) →
    dir ≡ e.parent → name.now ≡ e.name → contains place_cmp places (dir, name) ≡ is_taken places e
taken-is places e dir name in_dir named =
    ap (λ (n : List ℕ). has_place places dir n) named ∙ ap (λ (d : ℕ). has_place places d e.name) in_dir

-- a set with one more place
pub taken-more :
    (old new : BTreeSet (ℕ × Bor (List ℕ))) (e : Entry) (dir : ℕ) (name : Bor (List ℕ)) →
    dir ≡ e.parent → name.now ≡ e.name → Updates place_cmp old new (dir, name) true →
    (x : Entry) → is_taken new x ≡ (is_same e x || is_taken old x)
taken-more old new e dir name in_dir named updates x =
    let other : Bor (List ℕ) = record name { now = x.name } in
    let same : is_eq (place_cmp (dir, name) (x.parent, other)) ≡ is_same e x =
    same-places dir x.parent name.now x.name
    ∙ ap (λ (d : ℕ). x.parent == d && bytes_eq x.name name.now) in_dir
    ∙ ap (λ (n : List ℕ). x.parent == e.parent && bytes_eq x.name n) named in
    sym (taken-is new x x.parent other refl refl) ∙ updates.0 (x.parent, other)
    ∙ ap (λ (b : Bool). cond b true (contains place_cmp old (x.parent, other))) same
    ∙ cond-or (is_same e x) (contains place_cmp old (x.parent, other))
    ∙ ap (λ (b : Bool). is_same e x || b) (taken-is old x x.parent other refl refl)
