-- Paths in a valid state: each leads to the entry whose path it is, and no two entries have one.
use Rattle.std.proofs.Common.{◌≡◌, ℕ, zero, suc, ◌+◌, ◌<◌, ◌≤◌, Bool, true, false, cond, List, [], ◌∷◌, ◌++◌, length, map, reverse, subst, refl, ap, sym, ◌∙◌, arith, eq-eqb, inl, inr, append_assoc, length-append}
use Rattle.std.specs.Prelude.{◌==◌, ◌&&◌, ◌||◌, not, take, Option, Some, None, Result, Ok, Err, IsTrue}
use Rattle.std.specs.Option.{option_map_or}
use Rattle.std.specs.List.{list_all}
use Rattle.std.specs.Bool.{Decides}
use Rattle.std.specs.Cmp.Lexicographic.{pointwise}
use Rattle.std.specs.Str.{bytes_eq}
use Rattle.std.proofs.lemmas.Bool.{and_parts, cond-false, eqb-true, leb-true}
use Rattle.std.proofs.lemmas.Bool.Decides.{same_from_decides, Decides-eqb, Decides-like}
use Rattle.std.proofs.lemmas.List.{append-nil, length-map, length-reverse, reverse-append, take_all}
use Rattle.std.proofs.lemmas.Slice.Eq.{bytes_eq-Decides, slice_eq-Decides}
use Rattle.hac_model.specs.Tree.Limits.{has_short_path, names_below}
use Rattle.hac_model.specs.Tree.Looks.{has_names, destination}
use Rattle.hac_model.specs.Tree.{ancestors, child, entry_at, extends, is_directory_at, lineage, path_of}
use Rattle.hac_model.specs.Tree.Valid.{IsLayout, is_in_place}
use Rattle.hac_model.specs.declared.limits.TheConstants.{PATH_LIMIT}
use Rattle.hac_model.specs.declared.places.Place.{Place}
use Rattle.hac_model.specs.declared.places.Place.TheVariants.{There, Free}
use Rattle.hac_model.specs.declared.replies.Refusal.{Refusal}
use Rattle.hac_model.specs.declared.replies.Refusal.TheVariants.{NoPath, NotDir}
use Rattle.hac_model.specs.declared.states.Entry.{Entry}
use Rattle.hac_model.specs.declared.states.State.{State}
use Rattle.hac_model.proofs.LimitLemmas.{IsWithinLimits, limits-within}
use Rattle.hac_model.proofs.TreeLemmas.{Lives, child-own, directory-lives, entry_at-all, entry_at-low, entry_at-number, place-directory}
use Rattle.hac_model.proofs.Walks.{destination-walk, walk}
use Rattle.hac_model.proofs.BoolLemmas.{or-true}

-- what an entry leads to, or none
abbrev pub ancestors_by : ℕ → List Entry → Option Entry → List Entry
ancestors_by steps es found = option_map_or (λ (e : Entry). e ∷ ancestors steps es e.parent) found []

pub ancestors-step : (steps : ℕ) (es : List Entry) (n : ℕ) (e : Entry) → entry_at es n ≡ Some e → ancestors (suc steps) es n ≡ e ∷ ancestors steps es e.parent
ancestors-step steps es n e found = ap (ancestors_by steps es) found

pub ancestors-none : (steps : ℕ) (es : List Entry) (n : ℕ) → entry_at es n ≡ None → ancestors steps es n ≡ []
ancestors-none zero es n none = refl
ancestors-none (suc steps) es n none = ap (ancestors_by steps es) none

-- fewer steps give the first of the ancestors
pub ancestors-taken : (steps : ℕ) (es : List Entry) (n : ℕ) → ancestors steps es n ≡ take steps (ancestors (suc steps) es n)
ancestors-taken zero es n = refl
ancestors-taken (suc steps) es n =
    elim (entry_at es n) as (λ o. ancestors_by steps es o ≡ take (suc steps) (ancestors_by (suc steps) es o)) [
      | None ↦ refl
      | Some e ↦ ap (λ (above : List Entry). e ∷ above) (ancestors-taken steps es e.parent)
    ]

-- where steps are left over, one step more gives nothing more
pub ancestors-more : (steps : ℕ) (es : List Entry) (n : ℕ) → length (ancestors steps es n) < steps → ancestors (suc steps) es n ≡ ancestors steps es n
ancestors-more zero es n few = absurd (omega arith)
ancestors-more (suc steps) es n few =
    elim (entry_at es n) as (λ o. entry_at es n ≡ o → ancestors (suc (suc steps)) es n ≡ ancestors (suc steps) es n) [
      | None ↦ (λ none. ancestors-none (suc (suc steps)) es n none ∙ sym (ancestors-none (suc steps) es n none))
      | Some e ↦ (λ found.
          let fewer : length (ancestors steps es e.parent) < steps = omega (arith, few, ap length (ancestors-step steps es n e found)) in
          ancestors-step (suc steps) es n e found ∙ ap (λ (above : List Entry). e ∷ above) (ancestors-more steps es e.parent fewer) ∙ sym (ancestors-step steps es n e found))
    ] refl

-- for a short path the steps are enough, and one is left over
unfoldable pub limit : ℕ
limit = PATH_LIMIT

pub lineage-is : (es : List Entry) (n : ℕ) → lineage es n ≡ ancestors (suc limit) es n
unfolding lineage limit
lineage-is es n = refl

pub path-names : (s : State) (n : ℕ) → path_of s n ≡ reverse (map (λ (e : Entry). e.name) (lineage s.entries n))
unfolding path_of
path-names s n = refl

-- a path has as many names as the entry has ancestors
pub length-path : (s : State) (n : ℕ) → length (path_of s n) ≡ length (lineage s.entries n)
length-path s n = ap length (path-names s n) ∙ length-reverse (map (λ (e : Entry). e.name) (lineage s.entries n)) ∙ length-map (lineage s.entries n) (λ (e : Entry). e.name)

-- the root has no entry
pub root-none : (s : State) → IsLayout s → entry_at s.entries 0 ≡ None
root-none s h = entry_at-low 0 s.entries s.next 0 h.numbers (omega arith)

all_short : (es all : List Entry) (n : ℕ) (e : Entry) → list_all (has_short_path all) es ≡ true → entry_at es n ≡ Some e → has_short_path all e ≡ true
all_short [] all n e h found = absurd cc
all_short (first ∷ es) all n e h found =
    let parts = and_parts (has_short_path all first) (list_all (has_short_path all) es) h in
    elim (first.number == n) as (λ b. cond b (Some first) (entry_at es n) ≡ Some e → has_short_path all e ≡ true) [
      | true ↦ (λ found. let same : first ≡ e = cc in subst (λ (f : Entry). has_short_path all f ≡ true) same parts.0)
      | false ↦ (λ found. all_short es all n e parts.1 found)
    ] found

-- each entry has a short path, also with what may be below it
pub path-fits : (s : State) (n : ℕ) (e : Entry) → IsLayout s → entry_at s.entries n ≡ Some e → has_short_path s.entries e ≡ true
path-fits s n e h found = let within : IsWithinLimits s = limits-within s h.limits in all_short s.entries s.entries n e within.paths found

-- what lives has few ancestors
pub few-ancestors : (s : State) (n : ℕ) → IsLayout s → Lives s.entries n → length (lineage s.entries n) ≤ limit
unfolding limit
few-ancestors s n h (inl root) =
    let none : lineage s.entries n ≡ [] = ap (lineage s.entries) root ∙ lineage-is s.entries 0 ∙ ancestors-none (suc limit) s.entries 0 (root-none s h) in
    omega (arith, ap length none)
few-ancestors s n h (inr found) =
    let most : length (lineage s.entries found.0.number) + names_below found.0.body ≤ PATH_LIMIT = leb-true (length (lineage s.entries found.0.number) + names_below found.0.body) PATH_LIMIT (path-fits s n found.0 h found.1) in
    let same : length (lineage s.entries found.0.number) ≡ length (lineage s.entries n) = ap (λ (k : ℕ). length (lineage s.entries k)) (entry_at-number s.entries n found.0 found.1) in
    omega (arith, most, same)

-- the path of what lives has at most as many names as a path may have; so have those of what is in it, where it is a mount
pub path_of-room : (s : State) (n : ℕ) (e : Entry) → IsLayout s → entry_at s.entries n ≡ Some e → length (path_of s n) + names_below e.body ≤ PATH_LIMIT
path_of-room s n e h found =
    let most : length (lineage s.entries e.number) + names_below e.body ≤ PATH_LIMIT = leb-true (length (lineage s.entries e.number) + names_below e.body) PATH_LIMIT (path-fits s n e h found) in
    let same : length (lineage s.entries e.number) ≡ length (lineage s.entries n) = ap (λ (k : ℕ). length (lineage s.entries k)) (entry_at-number s.entries n e found) in
    omega (arith, most, same, length-path s n)

-- what lives and isn't the root is in a directory, which lives
pub parent-directory : (s : State) (n : ℕ) (e : Entry) → IsLayout s → entry_at s.entries n ≡ Some e → is_directory_at s.entries e.parent ≡ true
parent-directory s n e h found = place-directory s.entries e (entry_at-all (λ e. IsTrue (is_in_place s.entries e)) s.entries n e h.places found)

pub parent-lives : (s : State) (n : ℕ) (e : Entry) → IsLayout s → entry_at s.entries n ≡ Some e → Lives s.entries e.parent
parent-lives s n e h found = directory-lives s.entries e.parent (parent-directory s n e h found)

-- the ancestors of what lives, from those of its directory
pub lineage-parent : (s : State) (n : ℕ) (e : Entry) → IsLayout s → entry_at s.entries n ≡ Some e → lineage s.entries n ≡ e ∷ lineage s.entries e.parent
lineage-parent s n e h found =
    let step = lineage-is s.entries n ∙ ancestors-step limit s.entries n e found in
    let few : length (ancestors limit s.entries e.parent) < limit = omega (arith, few-ancestors s n h (inr (e, found)), ap length step) in
    step ∙ ap (λ (above : List Entry). e ∷ above) (sym (ancestors-more limit s.entries e.parent few) ∙ sym (lineage-is s.entries e.parent))

-- for what lives the steps are enough
pub lineage-take : (s : State) (n : ℕ) → IsLayout s → Lives s.entries n → ancestors limit s.entries n ≡ lineage s.entries n
lineage-take s n h lives =
    ancestors-taken limit s.entries n
    ∙ ap (take limit) (sym (lineage-is s.entries n))
    ∙ take_all limit (lineage s.entries n) (few-ancestors s n h lives)

-- what the root has, and each entry if its directory has it, each has that lives
up-from_root : (steps : ℕ) (s : State) (P : ℕ → Type 0) → IsLayout s → P 0 → ((n : ℕ) (e : Entry) → entry_at s.entries n ≡ Some e → P e.parent → P n) → (n : ℕ) → Lives s.entries n → length (lineage s.entries n) < steps → P n
up-from_root zero s P h root step n lives few = absurd (omega arith)
up-from_root (suc steps) s P h root step n (inl here) few = subst P (sym here) root
up-from_root (suc steps) s P h root step n (inr (e, found)) few =
    step n e found (up-from_root steps s P h root step e.parent (parent-lives s n e h found) (omega (arith, few, ap length (lineage-parent s n e h found))))

pub from_root : (s : State) (P : ℕ → Type 0) → IsLayout s → P 0 → ((n : ℕ) (e : Entry) → entry_at s.entries n ≡ Some e → P e.parent → P n) → (n : ℕ) → Lives s.entries n → P n
from_root s P h root step n lives = up-from_root (suc (length (lineage s.entries n))) s P h root step n lives (omega arith)

-- the path of the root is empty
pub path_of-root : (s : State) → IsLayout s → path_of s 0 ≡ []
path_of-root s h = path-names s 0 ∙ ap (λ (es : List Entry). reverse (map (λ (e : Entry). e.name) es)) (lineage-is s.entries 0 ∙ ancestors-none (suc limit) s.entries 0 (root-none s h))

-- the path of an entry is that of its directory with its name
pub path_of-parent : (s : State) (n : ℕ) (e : Entry) → IsLayout s → entry_at s.entries n ≡ Some e → path_of s n ≡ path_of s e.parent ++ e.name ∷ []
path_of-parent s n e h found =
    path-names s n
    ∙ ap (λ (es : List Entry). reverse (map (λ (e : Entry). e.name) es)) (lineage-parent s n e h found)
    ∙ reverse-append (e.name ∷ []) (map (λ (e : Entry). e.name) (lineage s.entries e.parent))
    ∙ ap (λ (names : List (List ℕ)). names ++ e.name ∷ []) (sym (path-names s e.parent))

-- depth falls to the parent
pub path_of-deeper : (s : State) (n : ℕ) (e : Entry) → IsLayout s → entry_at s.entries n ≡ Some e → length (path_of s n) ≡ length (path_of s e.parent) + 1
path_of-deeper s n e h found = ap length (path_of-parent s n e h found) ∙ length-append (path_of s e.parent) (e.name ∷ [])

-- two paths with a last name are one where the directories' paths and the names are
pub snoc-parts : (xs ys : List (List ℕ)) (x y : List ℕ) → xs ++ x ∷ [] ≡ ys ++ y ∷ [] → (xs ≡ ys) × (x ≡ y)
snoc-parts [] [] x y h = let same : x ≡ y = cc in (refl, same)
snoc-parts [] (z ∷ ys) x y h = let never : length (x ∷ []) ≡ length (z ∷ (ys ++ y ∷ [])) = ap length h in absurd (omega (arith, never, length-append ys (y ∷ [])))
snoc-parts (z ∷ xs) [] x y h = let never : length (z ∷ (xs ++ x ∷ [])) ≡ length (y ∷ []) = ap length h in absurd (omega (arith, never, length-append xs (x ∷ [])))
snoc-parts (v ∷ xs) (w ∷ ys) x y h =
    let heads : v ≡ w = cc in
    let tails : xs ++ x ∷ [] ≡ ys ++ y ∷ [] = cc in
    let parts = snoc-parts xs ys x y tails in
    ((λ i. heads i ∷ parts.0 i), parts.1)

-- two numbers that live and have one path are one
pub path_of-one : (s : State) (m n : ℕ) → IsLayout s → Lives s.entries m → Lives s.entries n → path_of s m ≡ path_of s n → m ≡ n
path_of-one s m n h live lives same =
    from_root s (λ m. (n : ℕ) → Lives s.entries n → path_of s m ≡ path_of s n → m ≡ n) h root step m live n lives same
  where
    root : (n : ℕ) → Lives s.entries n → path_of s 0 ≡ path_of s n → 0 ≡ n
    root n (inl here) same = sym here
    root n (inr found) same =
        let none : length (path_of s 0) ≡ 0 = ap length (path_of-root s h) in
        absurd (omega (arith, path_of-deeper s n found.0 h found.1, ap length same, none))

    below : (m : ℕ) (e : Entry) → entry_at s.entries m ≡ Some e → ((n : ℕ) → Lives s.entries n → path_of s e.parent ≡ path_of s n → e.parent ≡ n) → (n : ℕ) (f : Entry) → entry_at s.entries n ≡ Some f → path_of s m ≡ path_of s n → m ≡ n
    below m e found known n f found_n same =
        let parts = snoc-parts (path_of s e.parent) (path_of s f.parent) e.name f.name (sym (path_of-parent s m e h found) ∙ same ∙ path_of-parent s n f h found_n) in
        let parents : e.parent ≡ f.parent = known f.parent (parent-lives s n f h found_n) parts.0 in
        let both : Some m ≡ Some n =
        sym (child-own s.entries m e h.differ found)
        ∙ ap (λ (d : ℕ). child s.entries d e.name) parents
        ∙ ap (λ (x : List ℕ). child s.entries f.parent x) parts.1
        ∙ child-own s.entries n f h.differ found_n in
        cc

    step : (m : ℕ) (e : Entry) → entry_at s.entries m ≡ Some e → ((n : ℕ) → Lives s.entries n → path_of s e.parent ≡ path_of s n → e.parent ≡ n) → (n : ℕ) → Lives s.entries n → path_of s m ≡ path_of s n → m ≡ n
    step m e found known n (inl here) same =
        let none : length (path_of s n) ≡ 0 = ap (λ (k : ℕ). length (path_of s k)) here ∙ ap length (path_of-root s h) in
        absurd (omega (arith, path_of-deeper s m e h found, ap length same, none))
    step m e found known n (inr other) same = below m e found known n other.0 other.1 same

-- where a walk goes on with a name
abbrev pub walk_on : List Entry → List (List ℕ) → List ℕ → List (List ℕ) → ℕ → Result Place Refusal
walk_on es walked name rest number =
    cond (has_names rest && not (is_directory_at es number)) (Err (NotDir (walked ++ name ∷ []))) (walk es number (walked ++ name ∷ []) rest)

-- a walk from the root over a path ends where the path leads, and goes on from there
pub walk-path : (s : State) (n : ℕ) (rest : List (List ℕ)) → IsLayout s → Lives s.entries n → (has_names rest && not (is_directory_at s.entries n)) ≡ false → walk s.entries 0 [] (path_of s n ++ rest) ≡ walk s.entries n (path_of s n) rest
walk-path s n rest h lives goes =
    from_root s (λ n. (rest : List (List ℕ)) → (has_names rest && not (is_directory_at s.entries n)) ≡ false → walk s.entries 0 [] (path_of s n ++ rest) ≡ walk s.entries n (path_of s n) rest) h root step n lives rest goes
  where
    root : (rest : List (List ℕ)) → (has_names rest && not (is_directory_at s.entries 0)) ≡ false → walk s.entries 0 [] (path_of s 0 ++ rest) ≡ walk s.entries 0 (path_of s 0) rest
    root rest goes = ap (λ (p : List (List ℕ)). walk s.entries 0 [] (p ++ rest)) (path_of-root s h) ∙ ap (λ (p : List (List ℕ)). walk s.entries 0 p rest) (sym (path_of-root s h))

    step : (n : ℕ) (e : Entry) → entry_at s.entries n ≡ Some e → ((rest : List (List ℕ)) → (has_names rest && not (is_directory_at s.entries e.parent)) ≡ false → walk s.entries 0 [] (path_of s e.parent ++ rest) ≡ walk s.entries e.parent (path_of s e.parent) rest) → (rest : List (List ℕ)) → (has_names rest && not (is_directory_at s.entries n)) ≡ false → walk s.entries 0 [] (path_of s n ++ rest) ≡ walk s.entries n (path_of s n) rest
    step n e found known rest goes =
        let path : path_of s n ≡ path_of s e.parent ++ e.name ∷ [] = path_of-parent s n e h found in
        ap (λ (p : List (List ℕ)). walk s.entries 0 [] (p ++ rest)) path
        ∙ ap (λ (p : List (List ℕ)). walk s.entries 0 [] p) (append_assoc (path_of s e.parent) (e.name ∷ []) rest)
        ∙ known (e.name ∷ rest) (ap not (parent-directory s n e h found))
        ∙ ap (λ (o : Option ℕ). option_map_or (walk_on s.entries (path_of s e.parent) e.name rest) o (cond (has_names rest) (Err (NoPath (path_of s e.parent ++ e.name ∷ []))) (Ok (Free e.parent e.name)))) (child-own s.entries n e h.differ found)
        ∙ cond-false (has_names rest && not (is_directory_at s.entries n)) (Err (NotDir (path_of s e.parent ++ e.name ∷ []))) (walk s.entries n (path_of s e.parent ++ e.name ∷ []) rest) goes
        ∙ ap (λ (p : List (List ℕ)). walk s.entries n p rest) (sym path)

-- the path of what lives leads to it
pub destination-path : (s : State) (n : ℕ) → IsLayout s → Lives s.entries n → destination s (path_of s n) ≡ Ok (There n)
destination-path s n h lives = destination-walk s (path_of s n) ∙ ap (λ (p : List (List ℕ)). walk s.entries 0 [] p) (sym (append-nil (path_of s n))) ∙ walk-path s n [] h lives refl

-- the two paths are one, tested name by name
abbrev pub is_same_path : List (List ℕ) → List (List ℕ) → Bool
is_same_path path other = pointwise bytes_eq path other

same_path-Decides : (path other : List (List ℕ)) → Decides (is_same_path path other) (path ≡ other)
same_path-Decides path other = slice_eq-Decides bytes_eq-Decides path other (is_same_path path other) refl

extends-last : (path base : List (List ℕ)) (x : List ℕ) → extends (path ++ x ∷ []) base ≡ (is_same_path path base || extends path base)
extends-last [] [] x = refl
extends-last [] (y ∷ base) x = elim (bytes_eq x y) as (λ b. (b && false) ≡ false) [ true ↦ refl | false ↦ refl ]
extends-last (z ∷ path) [] x = refl
extends-last (z ∷ path) (y ∷ base) x =
    ap (λ (b : Bool). bytes_eq z y && b) (extends-last path base x)
    ∙ (elim (bytes_eq z y) as (λ b. (b && (is_same_path path base || extends path base)) ≡ ((b && is_same_path path base) || (b && extends path base))) [ true ↦ refl | false ↦ refl ])

-- nothing is above the root
pub extends-root : (s : State) (base : List (List ℕ)) → IsLayout s → extends (path_of s 0) base ≡ false
extends-root s base h = ap (λ (p : List (List ℕ)). extends p base) (path_of-root s h)

-- above an entry are its directory and all that is above that one
pub extends-parent : (s : State) (n d : ℕ) (e : Entry) → IsLayout s → Lives s.entries d → entry_at s.entries n ≡ Some e → extends (path_of s n) (path_of s d) ≡ (e.parent == d || extends (path_of s e.parent) (path_of s d))
extends-parent s n d e h lives found =
    let one : Decides (is_same_path (path_of s e.parent) (path_of s d)) (e.parent ≡ d) =
    Decides-like (is_same_path (path_of s e.parent) (path_of s d)) (path_of-one s e.parent d h (parent-lives s n e h found) lives) (λ same. ap (λ (k : ℕ). path_of s k) same) (same_path-Decides (path_of s e.parent) (path_of s d)) in
    ap (λ (p : List (List ℕ)). extends p (path_of s d)) (path_of-parent s n e h found)
    ∙ extends-last (path_of s e.parent) (path_of s d) e.name
    ∙ ap (λ (b : Bool). b || extends (path_of s e.parent) (path_of s d)) (same_from_decides (is_same_path (path_of s e.parent) (path_of s d)) (e.parent == d) one (Decides-eqb e.parent d))

-- this many steps over parents lead from a number to another
abbrev pub Rises : List Entry → ℕ → ℕ → ℕ → Type 0
Rises es zero n d = n ≡ d
Rises es (suc steps) n d = (e : Entry) × (entry_at es n ≡ Some e) × Rises es steps e.parent d

-- the path of what steps lead from goes on from the path of where they lead
pub rises-extends : (s : State) (steps n d : ℕ) → IsLayout s → Lives s.entries d → Rises s.entries (suc steps) n d → extends (path_of s n) (path_of s d) ≡ true
rises-extends s zero n d h lives (e, found, here) =
    extends-parent s n d e h lives found ∙ ap (λ (b : Bool). b || extends (path_of s e.parent) (path_of s d)) (eq-eqb e.parent d here)
rises-extends s (suc steps) n d h lives (e, found, more) =
    extends-parent s n d e h lives found ∙ ap (λ (b : Bool). e.parent == d || b) (rises-extends s steps e.parent d h lives more) ∙ or-true (e.parent == d)

-- and only there
pub extends-rises : (s : State) (n d : ℕ) → IsLayout s → Lives s.entries n → Lives s.entries d → extends (path_of s n) (path_of s d) ≡ true → (steps : ℕ) × Rises s.entries (suc steps) n d
extends-rises s n d h live lives below = from_root s (λ n. extends (path_of s n) (path_of s d) ≡ true → (steps : ℕ) × Rises s.entries (suc steps) n d) h root step n live below
  where
    root : extends (path_of s 0) (path_of s d) ≡ true → (steps : ℕ) × Rises s.entries (suc steps) 0 d
    root below = let never : false ≡ true = sym (extends-root s (path_of s d) h) ∙ below in absurd cc

    step : (n : ℕ) (e : Entry) → entry_at s.entries n ≡ Some e → (extends (path_of s e.parent) (path_of s d) ≡ true → (steps : ℕ) × Rises s.entries (suc steps) e.parent d) → extends (path_of s n) (path_of s d) ≡ true → (steps : ℕ) × Rises s.entries (suc steps) n d
    step n e found known below =
        elim (e.parent == d) as (λ b. (e.parent == d) ≡ b → (b || extends (path_of s e.parent) (path_of s d)) ≡ true → (steps : ℕ) × Rises s.entries (suc steps) n d) [
          | true ↦ (λ here below. (zero, (e, found, eqb-true e.parent d here)))
          | false ↦ (λ other below. let more = known below in (suc more.0, (e, found, more.1)))
        ] refl (sym (extends-parent s n d e h lives found) ∙ below)

pub lineage-steps : (es : List Entry) (n : ℕ) → ancestors (PATH_LIMIT + 1) es n ≡ lineage es n
unfolding lineage
lineage-steps es n = refl
