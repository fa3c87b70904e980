-- The paths of a state to which an entry was added, or in which one was moved.
use Rattle.std.proofs.Common.{◌≡◌, ℕ, zero, suc, ◌+◌, ◌-◌, ◌<◌, ◌≤◌, Bool, true, false, cond, List, [], ◌∷◌, ◌++◌, length, drop, reverse, subst, refl, ap, sym, ◌∙◌, arith, eq-eqb, inl, inr, length-append, length-drop, append_assoc}
use Rattle.std.specs.Prelude.{◌==◌, ◌&&◌, ◌||◌, not, nat_le, min, take, Option, Some, None, IsTrue, is_some}
use Rattle.std.specs.Option.{option_map}
use Rattle.std.specs.List.{AllByRecursion, list_all}
use Rattle.std.specs.Str.{bytes_eq}
use Rattle.std.proofs.lemmas.Bool.{and_parts, cond-true, cond-false, eqb-true, le-leb, ne_eqb, or_parts}
use Rattle.std.proofs.lemmas.Bool.Decides.{nat_tests}
use Rattle.std.proofs.lemmas.List.{drop-append-le, length-map, length-reverse, length-take, reverse-append, reverse-reverse, take_all}
use Rattle.std.proofs.lemmas.List.Folds.{list_all-append}
use Rattle.std.proofs.Math.Seq.{drop-length}
use Rattle.hac_model.specs.Tree.Events.{accepted, added, apply, changed_in, changed_at, is_inside, is_possible, renamed, reseated}
use Rattle.hac_model.specs.Tree.Limits.{are_paths_short, has_short_path, names_below, passed_limit}
use Rattle.hac_model.specs.Tree.{ancestors, entry_at, extends, lineage, path_of}
use Rattle.hac_model.specs.Tree.Valid.{IsLayout}
use Rattle.hac_model.specs.declared.events.Event.TheVariants.{Mv}
use Rattle.hac_model.specs.declared.limits.TheConstants.{PATH_LIMIT}
use Rattle.hac_model.specs.declared.states.Body.{Body}
use Rattle.hac_model.specs.declared.states.Entry.{Entry}
use Rattle.hac_model.specs.declared.states.State.{State}
use Rattle.hac_model.proofs.ChangeLemmas.{entry_at-changed, entry_at-new, entry_at-other, touched, touched-keeps}
use Rattle.hac_model.proofs.DepthLemmas.{entry-no_root, names_of, path-alike}
use Rattle.hac_model.proofs.PathLemmas.{ancestors-none, ancestors-step, ancestors_by, few-ancestors, length-path, limit, lineage-is, lineage-take, path-names, root-none, extends-parent, extends-root, from_root, parent-lives, path-fits, path_of-room, path_of-parent, path_of-root}
use Rattle.hac_model.proofs.TreeLemmas.{Lives, all-entries, directory-lives, entry_at-below, entry_at-cases, entry_at-next, entry_at-number, rise-below}
use Rattle.hac_model.proofs.LayoutLemmas.{apply-layout}
use Rattle.hac_model.proofs.ValidLemmas.{accepted-parts, free-parts, move-parts}
use Rattle.hac_model.proofs.BoolLemmas.{and-true}

-- An entry is added.

-- what lives has a number below the next one
lives-below : (s : State) (n : ℕ) → IsLayout s → Lives s.entries n → n < s.next
lives-below s n h (inl root) = let more : 0 < s.next = rise-below 0 s.entries s.next h.numbers in omega arith
lives-below s n h (inr found) = entry_at-below 0 s.entries s.next n found.0 h.numbers found.1

-- a test that each entry passes
pub all_pass : (test : Entry → Bool) (es : List Entry) → AllByRecursion (λ e. test e ≡ true) es → list_all test es ≡ true
all_pass test [] h = refl
all_pass test (e ∷ es) h = ap (λ (b : Bool). b && list_all test es) h.0 ∙ all_pass test es h.1

ancestors-added : (steps : ℕ) (s : State) (new : Entry) (m : ℕ) → IsLayout s → new.number ≡ s.next → Lives s.entries m → ancestors steps (s.entries ++ new ∷ []) m ≡ ancestors steps s.entries m
ancestors-added zero s new m h number lives = refl
ancestors-added (suc steps) s new m h number lives =
    ap (ancestors_by steps (s.entries ++ new ∷ [])) (entry_at-other s.entries new m (λ same. omega (arith, lives-below s m h lives)))
    ∙ (elim (entry_at s.entries m) as (λ o. entry_at s.entries m ≡ o → ancestors_by steps (s.entries ++ new ∷ []) o ≡ ancestors_by steps s.entries o) [
      | None ↦ (λ found. refl)
      | Some e ↦ (λ found. ap (λ (above : List Entry). e ∷ above) (ancestors-added steps s new e.parent h number (parent-lives s m e h found)))
    ] refl)

lineage-added : (s : State) (new : Entry) (m : ℕ) → IsLayout s → new.number ≡ s.next → Lives s.entries m → lineage (s.entries ++ new ∷ []) m ≡ lineage s.entries m
lineage-added s new m h number lives = lineage-is (s.entries ++ new ∷ []) m ∙ ancestors-added (suc limit) s new m h number lives ∙ sym (lineage-is s.entries m)

short-added : (s : State) (new e : Entry) → IsLayout s → new.number ≡ s.next → Lives s.entries e.number → has_short_path (s.entries ++ new ∷ []) e ≡ has_short_path s.entries e
short-added s new e h number lives = path-alike (s.entries ++ new ∷ []) s.entries e e (ap (λ (es : List Entry). length (names_of es)) (lineage-added s new e.number h number lives)) refl

-- the new entry is one step deeper than its directory
short-new : (s : State) (new : Entry) → IsLayout s → new.number ≡ s.next → Lives s.entries new.parent → has_short_path (s.entries ++ new ∷ []) new ≡ nat_le (length (path_of s new.parent) + 1 + names_below new.body) PATH_LIMIT
short-new s new h number lives =
    let none : entry_at s.entries new.number ≡ None = entry_at-next 0 s.entries s.next new.number h.numbers (omega arith) in
    let above : lineage (s.entries ++ new ∷ []) new.number ≡ new ∷ lineage s.entries new.parent =
    lineage-is (s.entries ++ new ∷ []) new.number
    ∙ ancestors-step limit (s.entries ++ new ∷ []) new.number new (entry_at-new s.entries new none)
    ∙ ap (λ (es : List Entry). new ∷ es) (ancestors-added limit s new new.parent h number lives ∙ lineage-take s new.parent h lives) in
    let deeper : length (lineage (s.entries ++ new ∷ []) new.number) ≡ length (path_of s new.parent) + 1 = omega (arith, ap length above, length-path s new.parent) in
    ap (λ (k : ℕ). nat_le (k + names_below new.body) PATH_LIMIT) deeper

-- all paths are short just where that of the directory leaves room for a name, or for two
pub paths-added : (s : State) (dir : ℕ) (name : List ℕ) (body : Body) → IsLayout s → Lives s.entries dir → are_paths_short (added s dir name body).entries ≡ nat_le (length (path_of s dir) + 1 + names_below body) PATH_LIMIT
paths-added s dir name body h lives =
    let new : Entry = record { number = s.next; parent = dir; name = name; body = body } in
    let test : Entry → Bool = has_short_path (s.entries ++ new ∷ []) in
    let old : list_all test s.entries ≡ true = all_pass test s.entries (all-entries (λ e. test e ≡ true) 0 s.entries s.next h.numbers (λ e found. short-added s new e h refl (inr (e, found)) ∙ path-fits s e.number e h found)) in
    list_all-append test s.entries (new ∷ [])
    ∙ ap (λ (b : Bool). b && list_all test (new ∷ [])) old
    ∙ and-true (test new)
    ∙ short-new s new h refl lives

-- An entry is moved.

-- the move of an entry to a directory outside of it
pub record IsMove (s : State) (n dir : ℕ) (e : Entry) : Type 0 where
  pub there : entry_at s.entries n ≡ Some e
  pub lives : Lives s.entries dir
  pub outside : is_inside s dir n ≡ false

-- an entry is inside of another one just where its directory is
inside-parent : (s : State) (n m : ℕ) (f : Entry) → IsLayout s → Lives s.entries n → (m ≡ n → ⊥) → entry_at s.entries m ≡ Some f → is_inside s m n ≡ is_inside s f.parent n
inside-parent s n m f h lives other found =
    ap (λ (b : Bool). b || extends (path_of s m) (path_of s n)) (ne_eqb m n other) ∙ extends-parent s m n f h lives found

inside-root : (s : State) (n : ℕ) (e : Entry) → IsLayout s → entry_at s.entries n ≡ Some e → is_inside s 0 n ≡ false
inside-root s n e h found =
    ap (λ (b : Bool). b || extends (path_of s 0) (path_of s n)) (ne_eqb 0 n (λ same. entry-no_root s n e h found (sym same)))
    ∙ extends-root s (path_of s n) h

-- what is no entry that moves is looked up as before
entry_at-still : (s : State) (n dir : ℕ) (name : List ℕ) (m : ℕ) (f : Entry) → (m ≡ n → ⊥) → entry_at s.entries m ≡ Some f → entry_at (changed_in n (reseated dir name) s.entries) m ≡ Some f
entry_at-still s n dir name m f other found =
    let number : f.number ≡ m = entry_at-number s.entries m f found in
    entry_at-changed n (reseated dir name) s.entries m (λ e. refl)
    ∙ ap (λ (o : Option Entry). option_map (touched n (reseated dir name)) o) found
    ∙ ap (λ (b : Bool). Some (cond b (reseated dir name f) f)) (ne_eqb f.number n (λ same. other (sym number ∙ same)))

entry_at-moved : (s : State) (n dir : ℕ) (name : List ℕ) (e : Entry) → entry_at s.entries n ≡ Some e → entry_at (changed_in n (reseated dir name) s.entries) n ≡ Some (reseated dir name e)
entry_at-moved s n dir name e found =
    entry_at-changed n (reseated dir name) s.entries n (λ e. refl)
    ∙ ap (λ (o : Option Entry). option_map (touched n (reseated dir name)) o) found
    ∙ ap (λ (b : Bool). Some (cond b (reseated dir name e) e)) (eq-eqb e.number n (entry_at-number s.entries n e found))

-- what a path extends is shorter
extends-longer : (path base : List (List ℕ)) → extends path base ≡ true → length base < length path
extends-longer [] base h = absurd cc
extends-longer (x ∷ path) [] h = omega arith
extends-longer (x ∷ path) (y ∷ base) h = let rest = extends-longer path base (and_parts (bytes_eq x y) (extends path base) h).1 in omega arith

inside-longer : (s : State) (m n : ℕ) → is_inside s m n ≡ true → length (path_of s n) ≤ length (path_of s m)
inside-longer s m n h =
    elim (m == n) as (λ b. (m == n) ≡ b → (b || extends (path_of s m) (path_of s n)) ≡ true → length (path_of s n) ≤ length (path_of s m)) [
      | true ↦ (λ here h. let same : m ≡ n = eqb-true m n here in subst (λ (k : ℕ). length (path_of s n) ≤ length (path_of s k)) (sym same) (omega arith))
      | false ↦ (λ other h. let longer = extends-longer (path_of s m) (path_of s n) h in omega arith)
    ] refl h

renamed-outside : (s : State) (n dir : ℕ) (name : List ℕ) (m : ℕ) → is_inside s m n ≡ false → renamed s n dir name m ≡ path_of s m
renamed-outside s n dir name m h = cond-false (is_inside s m n) (path_of s dir ++ name ∷ drop (length (path_of s n)) (path_of s m)) (path_of s m) h

renamed-inside : (s : State) (n dir : ℕ) (name : List ℕ) (m : ℕ) → is_inside s m n ≡ true → renamed s n dir name m ≡ path_of s dir ++ name ∷ drop (length (path_of s n)) (path_of s m)
renamed-inside s n dir name m h = cond-true (is_inside s m n) (path_of s dir ++ name ∷ drop (length (path_of s n)) (path_of s m)) (path_of s m) h

-- the entry itself has the new path
renamed-itself : (s : State) (n dir : ℕ) (name : List ℕ) → renamed s n dir name n ≡ path_of s dir ++ name ∷ []
renamed-itself s n dir name =
    renamed-inside s n dir name n (ap (λ (b : Bool). b || extends (path_of s n) (path_of s n)) (eq-eqb n n refl))
    ∙ ap (λ (rest : List (List ℕ)). path_of s dir ++ name ∷ rest) (drop-length (path_of s n))

-- each other has that of its directory with its name
renamed-parent : (s : State) (n dir : ℕ) (name : List ℕ) (m : ℕ) (f : Entry) → IsLayout s → Lives s.entries n → (m ≡ n → ⊥) → entry_at s.entries m ≡ Some f → renamed s n dir name m ≡ renamed s n dir name f.parent ++ f.name ∷ []
renamed-parent s n dir name m f h lives other found =
    elim (is_inside s f.parent n) as (λ b. is_inside s f.parent n ≡ b → renamed s n dir name m ≡ renamed s n dir name f.parent ++ f.name ∷ []) [
      | true ↦ (λ inside.
          renamed-inside s n dir name m (inside-parent s n m f h lives other found ∙ inside)
          ∙ ap (λ (p : List (List ℕ)). path_of s dir ++ name ∷ drop (length (path_of s n)) p) path
          ∙ ap (λ (p : List (List ℕ)). path_of s dir ++ name ∷ p) (drop-append-le (length (path_of s n)) (path_of s f.parent) (f.name ∷ []) (inside-longer s f.parent n inside))
          ∙ sym (append_assoc (path_of s dir) (name ∷ drop (length (path_of s n)) (path_of s f.parent)) (f.name ∷ []))
          ∙ ap (λ (p : List (List ℕ)). p ++ f.name ∷ []) (sym (renamed-inside s n dir name f.parent inside)))
      | false ↦ (λ outside.
          renamed-outside s n dir name m (inside-parent s n m f h lives other found ∙ outside)
          ∙ path
          ∙ ap (λ (p : List (List ℕ)). p ++ f.name ∷ []) (sym (renamed-outside s n dir name f.parent outside)))
    ] refl
  where
    path : path_of s m ≡ path_of s f.parent ++ f.name ∷ []
    path = path_of-parent s m f h found

-- what isn't there is not there after a move
entry_at-none : (s : State) (n dir : ℕ) (name : List ℕ) (m : ℕ) → entry_at s.entries m ≡ None → entry_at (changed_in n (reseated dir name) s.entries) m ≡ None
entry_at-none s n dir name m none = entry_at-changed n (reseated dir name) s.entries m (λ e. refl) ∙ ap (option_map (touched n (reseated dir name))) none

-- the last name of a path is the first one from below
last-first : (path : List (List ℕ)) (name : List ℕ) → reverse (path ++ name ∷ []) ≡ name ∷ reverse path
last-first path name = reverse-append path (name ∷ [])

none-taken : (k : ℕ) (names : List (List ℕ)) → names ≡ [] → take k (reverse names) ≡ []
none-taken zero names none = refl
none-taken (suc k) names none = ap (λ (names : List (List ℕ)). take (suc k) (reverse names)) none

-- the names above what is outside stay
names-outside : (s : State) (n dir : ℕ) (name : List ℕ) (e : Entry) (m : ℕ) → IsLayout s → entry_at s.entries n ≡ Some e → Lives s.entries m → is_inside s m n ≡ false → (steps : ℕ) → names_of (ancestors steps (changed_in n (reseated dir name) s.entries) m) ≡ take steps (reverse (path_of s m))
names-outside s n dir name e m h there lives outside = from_root s (λ m. is_inside s m n ≡ false → (steps : ℕ) → names_of (ancestors steps (changed_in n (reseated dir name) s.entries) m) ≡ take steps (reverse (path_of s m))) h root step m lives outside
  where
    root : is_inside s 0 n ≡ false → (steps : ℕ) → names_of (ancestors steps (changed_in n (reseated dir name) s.entries) 0) ≡ take steps (reverse (path_of s 0))
    root outside steps = ap names_of (ancestors-none steps (changed_in n (reseated dir name) s.entries) 0 (entry_at-none s n dir name 0 (root-none s h))) ∙ sym (none-taken steps (path_of s 0) (path_of-root s h))

    step : (m : ℕ) (f : Entry) → entry_at s.entries m ≡ Some f → (is_inside s f.parent n ≡ false → (steps : ℕ) → names_of (ancestors steps (changed_in n (reseated dir name) s.entries) f.parent) ≡ take steps (reverse (path_of s f.parent))) → is_inside s m n ≡ false → (steps : ℕ) → names_of (ancestors steps (changed_in n (reseated dir name) s.entries) m) ≡ take steps (reverse (path_of s m))
    step m f found known outside zero = refl
    step m f found known outside (suc steps) =
        let other : m ≡ n → ⊥ = λ same. let apart = (or_parts (m == n) (extends (path_of s m) (path_of s n)) outside).0 in let here : (m == n) ≡ true = eq-eqb m n same in cc in
        ap names_of (ancestors-step steps (changed_in n (reseated dir name) s.entries) m f (entry_at-still s n dir name m f other found))
        ∙ ap (λ (names : List (List ℕ)). f.name ∷ names) (known (sym (inside-parent s n m f h (inr (e, there)) other found) ∙ outside) steps)
        ∙ sym (ap (λ (p : List (List ℕ)). take (suc steps) (reverse p)) (path_of-parent s m f h found) ∙ ap (take (suc steps)) (last-first (path_of s f.parent) f.name))

-- after the move the names above each are those of its new path
names-moved : (s : State) (n dir : ℕ) (name : List ℕ) (e : Entry) (m : ℕ) → IsLayout s → IsMove s n dir e → Lives s.entries m → (steps : ℕ) → names_of (ancestors steps (changed_in n (reseated dir name) s.entries) m) ≡ take steps (reverse (renamed s n dir name m))
names-moved s n dir name e m h move lives = from_root s (λ m. (steps : ℕ) → names_of (ancestors steps (changed_in n (reseated dir name) s.entries) m) ≡ take steps (reverse (renamed s n dir name m))) h root step m lives
  where
    root : (steps : ℕ) → names_of (ancestors steps (changed_in n (reseated dir name) s.entries) 0) ≡ take steps (reverse (renamed s n dir name 0))
    root steps =
        ap names_of (ancestors-none steps (changed_in n (reseated dir name) s.entries) 0 (entry_at-none s n dir name 0 (root-none s h)))
        ∙ sym (none-taken steps (renamed s n dir name 0) (renamed-outside s n dir name 0 (inside-root s n e h move.there) ∙ path_of-root s h))

    itself : (steps : ℕ) → names_of (ancestors steps (changed_in n (reseated dir name) s.entries) n) ≡ take steps (reverse (renamed s n dir name n))
    itself zero = refl
    itself (suc steps) =
        ap names_of (ancestors-step steps (changed_in n (reseated dir name) s.entries) n (reseated dir name e) (entry_at-moved s n dir name e move.there))
        ∙ ap (λ (names : List (List ℕ)). name ∷ names) (names-outside s n dir name e dir h move.there move.lives move.outside steps)
        ∙ sym (ap (λ (p : List (List ℕ)). take (suc steps) (reverse p)) (renamed-itself s n dir name) ∙ ap (take (suc steps)) (last-first (path_of s dir) name))

    others : (m : ℕ) (f : Entry) → entry_at s.entries m ≡ Some f → ((steps : ℕ) → names_of (ancestors steps (changed_in n (reseated dir name) s.entries) f.parent) ≡ take steps (reverse (renamed s n dir name f.parent))) → (m ≡ n → ⊥) → (steps : ℕ) → names_of (ancestors steps (changed_in n (reseated dir name) s.entries) m) ≡ take steps (reverse (renamed s n dir name m))
    others m f found known other zero = refl
    others m f found known other (suc steps) =
        ap names_of (ancestors-step steps (changed_in n (reseated dir name) s.entries) m f (entry_at-still s n dir name m f other found))
        ∙ ap (λ (names : List (List ℕ)). f.name ∷ names) (known steps)
        ∙ sym (ap (λ (p : List (List ℕ)). take (suc steps) (reverse p)) (renamed-parent s n dir name m f h (inr (e, move.there)) other found) ∙ ap (take (suc steps)) (last-first (renamed s n dir name f.parent) f.name))

    step : (m : ℕ) (f : Entry) → entry_at s.entries m ≡ Some f → ((steps : ℕ) → names_of (ancestors steps (changed_in n (reseated dir name) s.entries) f.parent) ≡ take steps (reverse (renamed s n dir name f.parent))) → (steps : ℕ) → names_of (ancestors steps (changed_in n (reseated dir name) s.entries) m) ≡ take steps (reverse (renamed s n dir name m))
    step m f found known steps =
        elim (m == n) as (λ b. (m == n) ≡ b → names_of (ancestors steps (changed_in n (reseated dir name) s.entries) m) ≡ take steps (reverse (renamed s n dir name m))) [
          | true ↦ (λ here. subst (λ (j : ℕ). names_of (ancestors steps (changed_in n (reseated dir name) s.entries) j) ≡ take steps (reverse (renamed s n dir name j))) (sym (eqb-true m n here)) (itself steps))
          | false ↦ (λ apart. others m f found known (λ same. let here : (m == n) ≡ true = eq-eqb m n same in cc) steps)
        ] refl

-- the lineage after a move, by its names
lineage-moved : (s : State) (n dir : ℕ) (name : List ℕ) (e : Entry) (m : ℕ) → IsLayout s → IsMove s n dir e → Lives s.entries m → names_of (lineage (changed_in n (reseated dir name) s.entries) m) ≡ take (suc limit) (reverse (renamed s n dir name m))
lineage-moved s n dir name e m h move lives = ap names_of (lineage-is (changed_in n (reseated dir name) s.entries) m) ∙ names-moved s n dir name e m h move lives (suc limit)

-- as many of them as the new path has names, or one more than it may have
length-moved : (s : State) (n dir : ℕ) (name : List ℕ) (e : Entry) (m : ℕ) → IsLayout s → IsMove s n dir e → Lives s.entries m → length (lineage (changed_in n (reseated dir name) s.entries) m) ≡ min (suc limit) (length (renamed s n dir name m))
length-moved s n dir name e m h move lives =
    sym (length-map (lineage (changed_in n (reseated dir name) s.entries) m) (λ (e : Entry). e.name))
    ∙ ap length (lineage-moved s n dir name e m h move lives)
    ∙ length-take (suc limit) (reverse (renamed s n dir name m))
    ∙ ap (λ (k : ℕ). min (suc limit) k) (length-reverse (renamed s n dir name m))

short-moved : (s : State) (n dir : ℕ) (name : List ℕ) (e f : Entry) → IsLayout s → IsMove s n dir e → Lives s.entries f.number → has_short_path (changed_in n (reseated dir name) s.entries) (touched n (reseated dir name) f) ≡ nat_le (length (renamed s n dir name f.number) + names_below f.body) PATH_LIMIT
unfolding limit
short-moved s n dir name e f h move lives =
    (λ i. nat_le (length (lineage (changed_in n (reseated dir name) s.entries) (number i)) + names_below (body i)) PATH_LIMIT)
    ∙ ap (λ (k : ℕ). nat_le (k + names_below f.body) PATH_LIMIT) (length-moved s n dir name e f.number h move lives)
    ∙ cut (length (renamed s n dir name f.number)) (names_below f.body)
  where
    number : (touched n (reseated dir name) f).number ≡ f.number
    number = touched-keeps (λ e. e.number) n (reseated dir name) f refl

    body : (touched n (reseated dir name) f).body ≡ f.body
    body = touched-keeps (λ e. e.body) n (reseated dir name) f refl

    cut : (k more : ℕ) → nat_le (min (suc limit) k + more) PATH_LIMIT ≡ nat_le (k + more) PATH_LIMIT
    cut k more = grind (arith, nat_tests)

-- all paths are short after a move just where each new one is
pub paths-moved : (s : State) (n dir : ℕ) (name : List ℕ) (e : Entry) → IsLayout s → IsMove s n dir e → are_paths_short (changed_at s n (reseated dir name)).entries ≡ list_all (λ f. nat_le (length (renamed s n dir name f.number) + names_below f.body) PATH_LIMIT) s.entries
paths-moved s n dir name e h move = each s.entries (all-entries (λ f. has_short_path (changed_in n (reseated dir name) s.entries) (touched n (reseated dir name) f) ≡ nat_le (length (renamed s n dir name f.number) + names_below f.body) PATH_LIMIT) 0 s.entries s.next h.numbers (λ f found. short-moved s n dir name e f h move (inr (f, found))))
  where
    each : (es : List Entry) → AllByRecursion (λ f. has_short_path (changed_in n (reseated dir name) s.entries) (touched n (reseated dir name) f) ≡ nat_le (length (renamed s n dir name f.number) + names_below f.body) PATH_LIMIT) es → list_all (has_short_path (changed_in n (reseated dir name) s.entries)) (changed_in n (reseated dir name) es) ≡ list_all (λ f. nat_le (length (renamed s n dir name f.number) + names_below f.body) PATH_LIMIT) es
    each [] same = refl
    each (f ∷ es) same = λ i. same.0 i && each es same.1 i

-- so only what moves has to be looked at, whose paths grow by what the new place is deeper
pub paths-moved-inside : (s : State) (n dir : ℕ) (name : List ℕ) (e : Entry) → IsLayout s → IsMove s n dir e → are_paths_short (changed_at s n (reseated dir name)).entries
    ≡ list_all (λ f. not (is_inside s f.number n) || nat_le (length (path_of s dir) + 1 + (length (path_of s f.number) - length (path_of s n)) + names_below f.body) PATH_LIMIT) s.entries
paths-moved-inside s n dir name e h move =
    paths-moved s n dir name e h move
    ∙ each s.entries (all-entries IsSame 0 s.entries s.next h.numbers one)
  where
    IsSame : Entry → Type 0
    IsSame f = nat_le (length (renamed s n dir name f.number) + names_below f.body) PATH_LIMIT ≡ (not (is_inside s f.number n) || nat_le (length (path_of s dir) + 1 + (length (path_of s f.number) - length (path_of s n)) + names_below f.body) PATH_LIMIT)

    one : (f : Entry) → entry_at s.entries f.number ≡ Some f → IsSame f
    one f found = elim (is_inside s f.number n) as (λ b. is_inside s f.number n ≡ b → nat_le (length (renamed s n dir name f.number) + names_below f.body) PATH_LIMIT ≡ (not b || nat_le (length (path_of s dir) + 1 + (length (path_of s f.number) - length (path_of s n)) + names_below f.body) PATH_LIMIT)) [
      | true ↦ (λ inside.
          let long : length (renamed s n dir name f.number) ≡ length (path_of s dir) + 1 + (length (path_of s f.number) - length (path_of s n)) =
          ap length (renamed-inside s n dir name f.number inside) ∙ omega (arith, length-append (path_of s dir) (name ∷ drop (length (path_of s n)) (path_of s f.number)), length-drop (length (path_of s n)) (path_of s f.number)) in
          ap (λ (k : ℕ). nat_le (k + names_below f.body) PATH_LIMIT) long)
      | false ↦ (λ outside. ap (λ (p : List (List ℕ)). nat_le (length p + names_below f.body) PATH_LIMIT) (renamed-outside s n dir name f.number outside) ∙ le-leb (length (path_of s f.number) + names_below f.body) PATH_LIMIT (path_of-room s f.number f h found))
    ] refl

    each : (es : List Entry) → AllByRecursion IsSame es → list_all (λ f. nat_le (length (renamed s n dir name f.number) + names_below f.body) PATH_LIMIT) es ≡ list_all (λ f. not (is_inside s f.number n) || nat_le (length (path_of s dir) + 1 + (length (path_of s f.number) - length (path_of s n)) + names_below f.body) PATH_LIMIT) es
    each [] same = refl
    each (f ∷ es) same = λ i. same.0 i && each es same.1 i

-- the paths after a move, where all are short
path_of-moved : (s t : State) (n dir : ℕ) (name : List ℕ) (e : Entry) (m : ℕ) → IsLayout s → IsLayout t → t.entries ≡ changed_in n (reseated dir name) s.entries → IsMove s n dir e → Lives s.entries m → Lives t.entries m → path_of t m ≡ renamed s n dir name m
path_of-moved s t n dir name e m h k is move lives still =
    let few : length (lineage t.entries m) ≤ limit = few-ancestors t m k still in
    let long : length (lineage t.entries m) ≡ min (suc limit) (length (renamed s n dir name m)) = ap (λ (es : List Entry). length (lineage es m)) is ∙ length-moved s n dir name e m h move lives in
    let all : length (reverse (renamed s n dir name m)) ≤ suc limit = omega (arith, few, long, length-reverse (renamed s n dir name m)) in
    path-names t m
    ∙ ap (λ (es : List Entry). reverse (names_of (lineage es m))) is
    ∙ ap reverse (lineage-moved s n dir name e m h move lives ∙ take_all (suc limit) (reverse (renamed s n dir name m)) all)
    ∙ reverse-reverse (renamed s n dir name m)

pub some-found : (es : List Entry) (n : ℕ) → is_some (entry_at es n) ≡ true → (e : Entry) × (entry_at es n ≡ Some e)
some-found es n h = elim (entry_at-cases es n) [
  | inl none ↦ (let never : false ≡ true = ap (λ (o : Option Entry). is_some o) (sym none) ∙ h in absurd cc)
  | inr found ↦ found
]

-- an accepted move is one of an entry to a directory outside of it
pub accepted-move : (s : State) (n dir : ℕ) (name : List ℕ) → IsTrue (accepted s (Mv n dir name)) → (e : Entry) × IsMove s n dir e
accepted-move s n dir name ok =
    let parts = accepted-parts (is_possible s (Mv n dir name)) (passed_limit (changed_at s n (reseated dir name))) ok in
    let move = move-parts s n dir name parts.0 in
    let found = some-found s.entries n move.0 in
    (found.0, record { there = found.1; lives = directory-lives s.entries dir (free-parts s dir name move.1).0; outside = move.2 })

-- what lives before a move lives after it
still-lives : (s : State) (n dir : ℕ) (name : List ℕ) (e : Entry) (m : ℕ) → entry_at s.entries n ≡ Some e → Lives s.entries m → Lives (changed_in n (reseated dir name) s.entries) m
still-lives s n dir name e m there (inl root) = inl root
still-lives s n dir name e m there (inr (f, found)) = inr (touched n (reseated dir name) f, entry_at-changed n (reseated dir name) s.entries m (λ e. refl) ∙ ap (option_map (touched n (reseated dir name))) found)

pub moves-rename : (s : State) (n dir : ℕ) (name : List ℕ) (m : ℕ) → IsLayout s → IsTrue (accepted s (Mv n dir name)) → IsTrue (is_some (entry_at s.entries m)) → path_of (apply s (Mv n dir name)) m ≡ renamed s n dir name m
moves-rename s n dir name m h ok there =
    let move = accepted-move s n dir name ok in
    let lives : Lives s.entries m = inr (some-found s.entries m there) in
    path_of-moved s (apply s (Mv n dir name)) n dir name move.0 m h (apply-layout s (Mv n dir name) h ok) refl move.1 lives (still-lives s n dir name move.0 m move.1.there lives)
