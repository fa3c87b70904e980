-- How deep it goes below an entry, by its children one after the other.
use Rattle.std.proofs.Common.{◌≡◌, ℕ, zero, suc, ◌+◌, ◌-◌, ◌<◌, ◌≤◌, Bool, true, false, cond, List, [], ◌∷◌, length, map, refl, ap, sym, ◌∙◌, arith, inr, eq-eqb}
use Rattle.std.specs.Prelude.{◌==◌, ◌&&◌, ◌||◌, not, nat_le, Option, Some, None, filter}
use Rattle.std.specs.List.{list_all}
use Rattle.std.specs.Option.{option_map, option_map_or}
use Rattle.std.proofs.lemmas.Bool.{and_from, and_parts, eqb-true, leb-true, le-leb, ne_eqb, not-true}
use Rattle.std.proofs.lemmas.List.Folds.{list_all-map}
use Rattle.hac_model.specs.Tree.Events.{changed_at, is_empty_at, is_inside, reseated}
use Rattle.hac_model.specs.Tree.Limits.{are_paths_short, names_below}
use Rattle.hac_model.specs.Tree.Listing.{children, in_order, is_before, put_in_order}
use Rattle.hac_model.specs.Tree.{entry_at, extends, is_mount, is_mount_at, path_of}
use Rattle.hac_model.specs.Tree.Valid.{IsLayout}
use Rattle.hac_model.specs.declared.limits.TheConstants.{PATH_LIMIT}
use Rattle.hac_model.specs.declared.states.Entry.{Entry}
use Rattle.hac_model.specs.declared.states.State.{State}
use Rattle.hac_model.proofs.MountLayoutLemmas.{all-tested}
use Rattle.hac_model.proofs.MoveLemmas.{all_pass, paths-moved-inside, some-found}
use Rattle.hac_model.proofs.PathLemmas.{Rises, extends-rises, path_of-deeper, path_of-room, rises-extends}
use Rattle.hac_model.proofs.TreeLemmas.{Lives, all-entries, directory-lives, entry_at-all, entry_at-number}
use Rattle.tree_counts.specs.Depths.{GoesTo, is_shallow}
use Rattle.hac_model.proofs.BoolLemmas.{agree, or-true}

-- a test of all is one of all in order
all-put : (p : Entry → Bool) (new : Entry) (es : List Entry) → list_all p (put_in_order new es) ≡ (p new && list_all p es)
all-put p new [] = refl
all-put p new (e ∷ es) = elim (is_before new.name e.name) as (λ b. list_all p (cond b (new ∷ e ∷ es) (e ∷ put_in_order new es)) ≡ (p new && (p e && list_all p es))) [
  | true ↦ refl
  | false ↦ ap (λ (b : Bool). p e && b) (all-put p new es) ∙ turned (p e) (p new) (list_all p es)
]
  where
    turned : (a b c : Bool) → (a && (b && c)) ≡ (b && (a && c))
    turned true true c = refl
    turned true false c = refl
    turned false true c = refl
    turned false false c = refl

all-order : (p : Entry → Bool) (es : List Entry) → list_all p (in_order es) ≡ list_all p es
all-order p [] = refl
all-order p (e ∷ es) = all-put p e (in_order es) ∙ ap (λ (b : Bool). p e && b) (all-order p es)

all-filter : (p q : Entry → Bool) (es : List Entry) → list_all q (filter p es) ≡ list_all (λ e. not (p e) || q e) es
all-filter p q [] = refl
all-filter p q (e ∷ es) = elim (p e) as (λ b. list_all q (cond b (e ∷ filter p es) (filter p es)) ≡ ((not b || q e) && list_all (λ e. not (p e) || q e) es)) [
  | true ↦ ap (λ (b : Bool). q e && b) (all-filter p q es)
  | false ↦ all-filter p q es
]

-- each child passes, where all entries are looked at
pub shallow-flat : (names : ℕ) (s : State) (dir : ℕ) → is_shallow (suc names) s dir ≡ list_all (λ e. not (e.parent == dir) || is_shallow names s e.number) s.entries
shallow-flat names s dir =
    list_all-map (is_shallow names s) (λ (e : Entry). e.number) (children s dir)
    ∙ all-order (λ e. is_shallow names s e.number) (filter (λ (e : Entry). e.parent == dir) s.entries)
    ∙ all-filter (λ (e : Entry). e.parent == dir) (λ e. is_shallow names s e.number) s.entries

-- one name fewer is left for the children
pub shallow-step : (names : ℕ) (s : State) (dir : ℕ) → 0 < names → is_shallow names s dir ≡ list_all (is_shallow (names - 1) s) (map (λ (e : Entry). e.number) (children s dir))
shallow-step zero s dir some = absurd (omega arith)
shallow-step (suc names) s dir some = let less : suc names - 1 ≡ names = omega arith in ap (λ (k : ℕ). list_all (is_shallow k s) (map (λ (e : Entry). e.number) (children s dir))) (sym less)

-- a step more at the end
rises-more : (es : List Entry) (steps m n d : ℕ) (e : Entry) → entry_at es n ≡ Some e → e.parent ≡ d → Rises es steps m n → Rises es (suc steps) m d
rises-more es zero m n d e found here same = (e, ap (λ (k : ℕ). entry_at es k) same ∙ found, here)
rises-more es (suc steps) m n d e found here (f, at, more) = (f, at, rises-more es steps f.parent n d e found here more)

module _ (s : State) (h : IsLayout s) where
  -- steps lead from a path with this many names more
  rises-depth : (steps m n : ℕ) → Rises s.entries steps m n → length (path_of s m) ≡ length (path_of s n) + steps
  rises-depth zero m n same = let even = ap (λ (k : ℕ). length (path_of s k)) same in omega (arith, even)
  rises-depth (suc steps) m n (e, found, more) = omega (arith, path_of-deeper s m e h found, rises-depth steps e.parent n more)

  -- a child of a directory below which it isn't too deep
  child-shallow : (names d m : ℕ) (e : Entry) → is_shallow names s d ≡ true → entry_at s.entries m ≡ Some e → e.parent ≡ d → (0 < names) × (is_shallow (names - 1) s m ≡ true)
  child-shallow zero d m e shallow found here =
      let bare : not (e.parent == d) ≡ true = entry_at-all (λ e. not (e.parent == d) ≡ true) s.entries m e (all-tested (λ e. not (e.parent == d)) s.entries (and_parts (is_empty_at s.entries d) (not (is_mount_at s.entries d)) shallow).0) found in
      let never : false ≡ true = ap not (sym (eq-eqb e.parent d here)) ∙ bare in
      absurd cc
  child-shallow (suc names) d m e shallow found here =
      let each = entry_at-all (λ e. (not (e.parent == d) || is_shallow names s e.number) ≡ true) s.entries m e (all-tested (λ e. not (e.parent == d) || is_shallow names s e.number) s.entries (sym (shallow-flat names s d) ∙ shallow)) found in
      let less : suc names - 1 ≡ names = omega arith in (
        omega arith,
        ap (λ (k : ℕ). is_shallow k s m) less
            ∙ ap (λ (k : ℕ). is_shallow names s k) (sym (entry_at-number s.entries m e found))
            ∙ ap (λ (b : Bool). not b || is_shallow names s e.number) (sym (eq-eqb e.parent d here)) ∙ each,
      )

  -- what steps lead up from isn't too deep
  rises-shallow : (names steps m n : ℕ) → is_shallow names s n ≡ true → Rises s.entries steps m n → (steps ≤ names) × (is_shallow (names - steps) s m ≡ true)
  rises-shallow names zero m n shallow same =
      let all : names - 0 ≡ names = omega arith in
      (omega arith, ap (λ (k : ℕ). is_shallow k s m) all ∙ ap (λ (k : ℕ). is_shallow names s k) same ∙ shallow)
  rises-shallow names (suc steps) m n shallow (e, found, more) =
      let above = rises-shallow names steps e.parent n shallow more in
      let here = child-shallow (names - steps) e.parent m e above.1 found refl in
      let less : names - suc steps ≡ names - steps - 1 = omega arith in
      (omega (arith, above.0, here.0), ap (λ (k : ℕ). is_shallow k s m) less ∙ here.1)

  mount-at : (n : ℕ) (f : Entry) → entry_at s.entries n ≡ Some f → is_mount_at s.entries n ≡ is_mount f.body
  mount-at n f found = ap (λ (o : Option Entry). option_map_or is_mount (option_map (λ (e : Entry). e.body) o) false) found

  -- and leaves room for what may come
  shallow-room : (names n : ℕ) (f : Entry) → is_shallow names s n ≡ true → entry_at s.entries n ≡ Some f → names_below f.body ≤ names
  shallow-room zero n f shallow found =
      let none : is_mount f.body ≡ false = sym (mount-at n f found) ∙ not-true (is_mount_at s.entries n) (and_parts (is_empty_at s.entries n) (not (is_mount_at s.entries n)) shallow).1 in
      omega (arith, ap (λ (b : Bool). cond {A = ℕ} b 1 0) none)
  shallow-room (suc names) n f shallow found = elim (is_mount f.body) as (λ b. cond {A = ℕ} b 1 0 ≤ suc names) [ true ↦ omega arith | false ↦ omega arith ]

  -- the entries that steps lead up from, each with what may come below it
  abbrev HasRoom : ℕ → ℕ → Type 0
  HasRoom names d = (steps : ℕ) (f : Entry) → entry_at s.entries f.number ≡ Some f → Rises s.entries steps f.number d → steps + names_below f.body ≤ names

  no-mount : (d : ℕ) → HasRoom 0 d → is_mount_at s.entries d ≡ false
  no-mount d few = elim (entry_at s.entries d) as (λ o. entry_at s.entries d ≡ o → option_map_or is_mount (option_map (λ (e : Entry). e.body) o) false ≡ false) [
    | None ↦ (λ found. refl)
    | Some f ↦ (λ found.
        let number : f.number ≡ d = entry_at-number s.entries d f found in
        let none : zero + names_below f.body ≤ 0 = few zero f (ap (λ (k : ℕ). entry_at s.entries k) number ∙ found) number in
        by_room (is_mount f.body) none)
  ] refl
    where
      by_room : (b : Bool) → zero + cond {A = ℕ} b 1 0 ≤ 0 → b ≡ false
      by_room true never = absurd (omega (arith, never))
      by_room false none = refl

  -- where all have room it isn't too deep
  few-shallow : (names d : ℕ) → HasRoom names d → is_shallow names s d ≡ true
  few-shallow zero d few =
      and_from (is_empty_at s.entries d) (not (is_mount_at s.entries d))
      (all_pass (λ e. not (e.parent == d)) s.entries (all-entries (λ e. not (e.parent == d) ≡ true) 0 s.entries s.next h.numbers (λ e found.
      ap not (ne_eqb e.parent d (λ here. let never : 1 + names_below e.body ≤ 0 = few 1 e found (e, found, here) in omega (arith, never))))))
      (ap not (no-mount d few))
  few-shallow (suc names) d few =
      shallow-flat names s d ∙ all_pass (λ e. not (e.parent == d) || is_shallow names s e.number) s.entries (all-entries (λ e. (not (e.parent == d) || is_shallow names s e.number) ≡ true) 0 s.entries s.next h.numbers (λ e found.
      elim (e.parent == d) as (λ b. (e.parent == d) ≡ b → (not b || is_shallow names s e.number) ≡ true) [
        | true ↦ (λ here. few-shallow names e.number (λ steps f at up.
            let more : suc steps + names_below f.body ≤ suc names = few (suc steps) f at (rises-more s.entries steps f.number e.number d e found (eqb-true e.parent d here) up) in
            omega (arith, more)))
        | false ↦ (λ other. refl)
      ] refl))

  module _ (n dir : ℕ) (goes : GoesTo s n dir) where
    entry_is : (e : Entry) × (entry_at s.entries n ≡ Some e)
    entry_is = some-found s.entries n goes.there

    -- the path of an entry is short once that of what moves has this many names
    abbrev has_room : ℕ → Entry → Bool
    has_room new f = nat_le (new + (length (path_of s f.number) - length (path_of s n)) + names_below f.body) PATH_LIMIT

    abbrev is_short : ℕ → Entry → Bool
    is_short new f = not (is_inside s f.number n) || has_room new f

    moved-short : (name : List ℕ) → are_paths_short (changed_at s n (reseated dir name)).entries ≡ list_all (is_short (length (path_of s dir) + 1)) s.entries
    moved-short name = paths-moved-inside s n dir name entry_is.0 h (record { there = entry_is.1; lives = directory-lives s.entries dir goes.directory; outside = goes.outside })

    -- no step leads from what moves to itself
    inside-rises : (m : ℕ) → Lives s.entries m → is_inside s m n ≡ true → (steps : ℕ) × Rises s.entries steps m n
    inside-rises m lives inside = elim (m == n) as (λ b. (m == n) ≡ b → (b || extends (path_of s m) (path_of s n)) ≡ true → (steps : ℕ) × Rises s.entries steps m n) [
      | true ↦ (λ same inside. (zero, eqb-true m n same))
      | false ↦ (λ other below. let up = extends-rises s m n h lives (inr entry_is) below in (suc up.0, up.1))
    ] refl inside

    rises-inside : (steps m : ℕ) → Rises s.entries (suc steps) m n → is_inside s m n ≡ true
    rises-inside steps m up = ap (λ (b : Bool). m == n || b) (rises-extends s steps m n h (inr entry_is) up) ∙ or-true (m == n)

    -- where it goes no deeper all stays short
    pub no_deeper : (new : ℕ) → new ≤ length (path_of s n) → list_all (is_short new) s.entries ≡ true
    no_deeper new less = all_pass (is_short new) s.entries (all-entries (λ f. is_short new f ≡ true) 0 s.entries s.next h.numbers one)
      where
        one : (f : Entry) → entry_at s.entries f.number ≡ Some f → is_short new f ≡ true
        one f found = elim (is_inside s f.number n) as (λ b. is_inside s f.number n ≡ b → (not b || has_room new f) ≡ true) [
          | true ↦ (λ inside.
              let up = inside-rises f.number (inr (f, found)) inside in
              le-leb (new + (length (path_of s f.number) - length (path_of s n)) + names_below f.body) PATH_LIMIT (omega (arith, less, rises-depth up.0 f.number n up.1, path_of-room s f.number f h found)))
          | false ↦ (λ outside. refl)
        ] refl

    -- else its own path has to stay short, and what is below it may not be too deep
    deeper : (new : ℕ) → list_all (is_short new) s.entries ≡ true → (nat_le new PATH_LIMIT && is_shallow (PATH_LIMIT - new) s n) ≡ true
    deeper new all =
        let low : new ≤ PATH_LIMIT = omega (arith, within zero entry_is.0 own own-number) in
        and_from (nat_le new PATH_LIMIT) (is_shallow (PATH_LIMIT - new) s n) (le-leb new PATH_LIMIT low)
        (few-shallow (PATH_LIMIT - new) n (λ steps f found up. omega (arith, low, within steps f found up)))
      where
        own-number : entry_is.0.number ≡ n
        own-number = entry_at-number s.entries n entry_is.0 entry_is.1

        own : entry_at s.entries entry_is.0.number ≡ Some entry_is.0
        own = ap (λ (k : ℕ). entry_at s.entries k) own-number ∙ entry_is.1

        inside : (steps : ℕ) (f : Entry) → Rises s.entries steps f.number n → is_inside s f.number n ≡ true
        inside zero f here = ap (λ (b : Bool). b || extends (path_of s f.number) (path_of s n)) (eq-eqb f.number n here)
        inside (suc steps) f up = rises-inside steps f.number up

        within : (steps : ℕ) (f : Entry) → entry_at s.entries f.number ≡ Some f → Rises s.entries steps f.number n → new + steps + names_below f.body ≤ PATH_LIMIT
        within steps f found up =
            let short : is_short new f ≡ true = entry_at-all (λ f. is_short new f ≡ true) s.entries f.number f (all-tested (is_short new) s.entries all) found in
            let room : has_room new f ≡ true = ap (λ (b : Bool). not b || has_room new f) (sym (inside steps f up)) ∙ short in
            omega (arith, rises-depth steps f.number n up, leb-true (new + (length (path_of s f.number) - length (path_of s n)) + names_below f.body) PATH_LIMIT room)

    shallow : (new : ℕ) → (nat_le new PATH_LIMIT && is_shallow (PATH_LIMIT - new) s n) ≡ true → list_all (is_short new) s.entries ≡ true
    shallow new holds =
        let parts = and_parts (nat_le new PATH_LIMIT) (is_shallow (PATH_LIMIT - new) s n) holds in
        all_pass (is_short new) s.entries (all-entries (λ f. is_short new f ≡ true) 0 s.entries s.next h.numbers (one (leb-true new PATH_LIMIT parts.0) parts.1))
      where
        one : new ≤ PATH_LIMIT → is_shallow (PATH_LIMIT - new) s n ≡ true → (f : Entry) → entry_at s.entries f.number ≡ Some f → is_short new f ≡ true
        one low deep f found = elim (is_inside s f.number n) as (λ b. is_inside s f.number n ≡ b → (not b || has_room new f) ≡ true) [
          | true ↦ (λ inside.
              let up = inside-rises f.number (inr (f, found)) inside in
              let few = rises-shallow (PATH_LIMIT - new) up.0 f.number n deep up.1 in
              le-leb (new + (length (path_of s f.number) - length (path_of s n)) + names_below f.body) PATH_LIMIT
              (omega (arith, low, few.0, rises-depth up.0 f.number n up.1, shallow-room (PATH_LIMIT - new - up.0) f.number f few.1 found)))
          | false ↦ (λ outside. refl)
        ] refl

    -- all paths stay short just there
    pub deeper-told : (name : List ℕ) (new : ℕ) → new ≡ length (path_of s dir) + 1 → (nat_le new PATH_LIMIT && is_shallow (PATH_LIMIT - new) s n) ≡ are_paths_short (changed_at s n (reseated dir name)).entries
    deeper-told name new is =
        agree (nat_le new PATH_LIMIT && is_shallow (PATH_LIMIT - new) s n) (list_all (is_short new) s.entries) (shallow new) (deeper new)
        ∙ ap (λ (k : ℕ). list_all (is_short k) s.entries) is
        ∙ sym (moved-short name)

    pub no_deeper-told : (name : List ℕ) (new : ℕ) → new ≡ length (path_of s dir) + 1 → new ≤ length (path_of s n) → true ≡ are_paths_short (changed_at s n (reseated dir name)).entries
    no_deeper-told name new is less = sym (no_deeper new less) ∙ ap (λ (k : ℕ). list_all (is_short k) s.entries) is ∙ sym (moved-short name)
