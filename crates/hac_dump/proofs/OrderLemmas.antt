-- The order in which the entries of a tree are made again.
use Rattle.std.proofs.Common.{◌≡◌, ℕ, zero, suc, ◌+◌, ◌≤◌, Bool, true, false, cond, List, [], ◌∷◌, ◌++◌, length, subst, refl, ap, sym, ◌∙◌, arith, inl, inr, eq-eqb, append_assoc}
use Rattle.std.specs.Prelude.{◌||◌, ◌==◌, not, filter, if◌then◌else◌, sum_by, Option, Some, None}
use Rattle.std.specs.List.{AllByRecursion}
use Rattle.std.specs.Option.{option_map, option_map_or}
use Rattle.std.proofs.lemmas.Bool.{eqb-true, ne_eqb}
use Rattle.std.proofs.lemmas.List.{append-nil}
use Rattle.std.proofs.lemmas.List.Sums.{sum_by-append, sum_by-cons}
use Rattle.hac_model.specs.Tree.{entry_at, is_directory, is_directory_at, is_dirty, is_symlink, path_of}
use Rattle.hac_model.specs.Tree.Listing.{is_before}
use Rattle.hac_model.specs.Tree.Paths.{path_text}
use Rattle.hac_model.specs.Tree.Valid.{IsLayout, IsSound}
use Rattle.hac_model.specs.declared.states.Body.{Body}
use Rattle.hac_model.specs.declared.states.Body.TheVariants.{File, Dir, Symlink, Semantic, Mount, Document}
use Rattle.hac_model.specs.declared.states.Entry.{Entry}
use Rattle.hac_model.specs.declared.states.State.{State}
use Rattle.hac_model.proofs.ChangeLemmas.{all-filter, all-joined}
use Rattle.hac_model.proofs.PathLemmas.{parent-directory, path_of-deeper, path_of-parent, root-none}
use Rattle.hac_model.proofs.TreeLemmas.{Lives, all-entries, directory-lives, entry_at-all, entry_at-number}
use Rattle.hac_model.specs.Script.Dump.{is_path_before, is_shown, such_by_path}
use Rattle.hac_dump.proofs.PartLemmas.{Counted, IsOrder, Rooted, lives-more}
use Rattle.hac_dump.proofs.SortLemmas.{Sorted, all-sorted, filter-sum, four-sums, number-found, number-none, number-once, of_number, parent-before, sorted, sorted-sum, sum-part}
use Rattle.hac_dump.proofs.StageLemmas.{IsPlainKind}

-- ---- new numbers

-- the place of a number in a list, counted on from k; 0 where it isn't there
abbrev pub place_from : ℕ → List Entry → ℕ → ℕ
place_from k [] n = 0
place_from k (e ∷ es) n = if e.number == n then k else place_from (k + 1) es n

counted-alike : (f g : ℕ → ℕ) (k : ℕ) (es : List Entry) → AllByRecursion (λ e. f e.number ≡ g e.number) es → Counted f k es → Counted g k es
counted-alike f g k [] same h = tt
counted-alike f g k (e ∷ es) same h = (sym same.0 ∙ h.0, counted-alike f g (k + 1) es same.1 h.1)

-- where no number comes twice they are counted one by one
counted-places : (k : ℕ) (es : List Entry) → ((n : ℕ) → sum_by (of_number n) es ≤ 1) → Counted (place_from k es) k es
counted-places k [] once = tt
counted-places k (e ∷ es) once = (
  ap (λ (b : Bool). if b then k else place_from (k + 1) es e.number) (eq-eqb e.number e.number refl),
  counted-alike (place_from (k + 1) es) (place_from k (e ∷ es)) (k + 1) es (each es (λ n some. some))
      (counted-places (k + 1) es (λ n. let now = once n in omega (arith, now, sum_by-cons (of_number n) e es))),
)
  where
    none : sum_by (of_number e.number) es ≡ 0
    none =
        let now = once e.number in
        let here : of_number e.number e ≡ 1 = ap (λ (b : Bool). cond {A = ℕ} b 1 0) (eq-eqb e.number e.number refl) in
        omega (arith, now, here, sum_by-cons (of_number e.number) e es)

    each : (rest : List Entry) → ((n : ℕ) → 1 ≤ sum_by (of_number n) rest → 1 ≤ sum_by (of_number n) es) → AllByRecursion (λ x. place_from (k + 1) es x.number ≡ place_from k (e ∷ es) x.number) rest
    each [] inside = tt
    each (x ∷ rest) inside = (
      sym (ap (λ (b : Bool). if b then k else place_from (k + 1) es x.number) (ne_eqb e.number x.number (λ same.
          let some = inside x.number (let here : of_number x.number x ≡ 1 = ap (λ (b : Bool). cond {A = ℕ} b 1 0) (eq-eqb x.number x.number refl) in omega (arith, sum_by-cons (of_number x.number) x rest, here)) in
          let even : sum_by (of_number x.number) es ≡ sum_by (of_number e.number) es = ap (λ (n : ℕ). sum_by (of_number n) es) (sym same) in
          omega (arith, some, even, none)))),
      each rest (λ n some. inside n (omega (arith, some, sum_by-cons (of_number n) x rest))),
    )

place-none : (k : ℕ) (es : List Entry) (n : ℕ) → entry_at es n ≡ None → place_from k es n ≡ 0
place-none k [] n none = refl
place-none k (e ∷ es) n none = elim (e.number == n) as (λ b. cond b (Some e) (entry_at es n) ≡ None → (if b then k else place_from (k + 1) es n) ≡ 0) [
  | true ↦ (λ none. absurd cc)
  | false ↦ (λ none. place-none (k + 1) es n none)
] none

-- ---- the order

abbrev pub is_new : Entry → Bool
is_new e = not (is_shown e.body)

abbrev pub directories : State → List Entry
directories s = such_by_path s is_directory

abbrev pub shown_files : State → List Entry
shown_files s = such_by_path s is_shown

abbrev pub dirty_files : State → List Entry
dirty_files s = such_by_path s is_dirty

abbrev pub symlinks : State → List Entry
symlinks s = such_by_path s is_symlink

-- directories, files that were indexed, files that were not, symbolic links
abbrev pub base_of : State → List Entry
base_of s = directories s ++ shown_files s

abbrev pub order_of : State → List Entry
order_of s = base_of s ++ (filter is_new (dirty_files s) ++ symlinks s)

-- an entry's new number: its place there
abbrev pub renumber : State → ℕ → ℕ
renumber s = place_from 1 (order_of s)

module _ (s : State) (h : IsLayout s) (plain : (e : Entry) → entry_at s.entries e.number ≡ Some e → IsPlainKind e.body) where
  abbrev IsThere : Entry → Type 0
  IsThere e = entry_at s.entries e.number ≡ Some e

  all-there : AllByRecursion IsThere s.entries
  all-there = all-entries IsThere 0 s.entries s.next h.numbers (λ e here. here)

  pub such-there : (test : Body → Bool) → AllByRecursion IsThere (such_by_path s test)
  such-there test = all-sorted s IsThere (filter (λ e. test e.body) s.entries) (all-filter IsThere (λ e. test e.body) s.entries all-there)

  pub base-there : AllByRecursion IsThere (base_of s)
  base-there = all-joined IsThere (directories s) (shown_files s) (such-there is_directory) (such-there is_shown)

  rest-there : AllByRecursion IsThere (filter is_new (dirty_files s) ++ symlinks s)
  rest-there = all-joined IsThere (filter is_new (dirty_files s)) (symlinks s) (all-filter IsThere is_new (dirty_files s) (such-there is_dirty)) (such-there is_symlink)

  pub order-there : AllByRecursion IsThere (order_of s)
  order-there = all-joined IsThere (base_of s) (filter is_new (dirty_files s) ++ symlinks s) base-there rest-there

  -- what is counted in a list of entries of the tree is found there
  found-in : (es : List Entry) (n : ℕ) (e : Entry) → AllByRecursion IsThere es → entry_at s.entries n ≡ Some e → 1 ≤ sum_by (of_number n) es → entry_at es n ≡ Some e
  found-in es n e from there some =
      let at = number-found es n some in
      let here : entry_at s.entries at.0.number ≡ Some at.0 = entry_at-all IsThere es n at.0 from at.1 in
      let even : Some at.0 ≡ Some e = sym here ∙ ap (entry_at s.entries) (entry_at-number es n at.0 at.1) ∙ there in
      at.1 ∙ even

  such-sum : (f : Entry → ℕ) (test : Body → Bool) → sum_by f (such_by_path s test) ≡ sum_by (λ e. if test e.body then f e else 0) s.entries
  such-sum f test = sorted-sum s f (filter (λ e. test e.body) s.entries) ∙ filter-sum f (λ e. test e.body) s.entries

  -- an entry of a kind is among those of that kind
  pub such-found : (test : Body → Bool) (n : ℕ) (e : Entry) → entry_at s.entries n ≡ Some e → test e.body ≡ true → entry_at (such_by_path s test) n ≡ Some e
  such-found test n e there is =
      let more : (if test e.body then of_number n e else 0) ≤ sum_by (λ e. if test e.body then of_number n e else 0) s.entries = sum-part (λ e. if test e.body then of_number n e else 0) s.entries n e there in
      let one : (if test e.body then of_number n e else 0) ≡ 1 = ap (λ (b : Bool). if b then of_number n e else 0) is ∙ ap (λ (b : Bool). cond {A = ℕ} b 1 0) (eq-eqb e.number n (entry_at-number s.entries n e there)) in
      found-in (such_by_path s test) n e (such-there test) there (omega (arith, more, one, such-sum (of_number n) test))

  pub base-found : (n : ℕ) (e : Entry) → entry_at s.entries n ≡ Some e → is_shown e.body ≡ true → entry_at (base_of s) n ≡ Some e
  base-found n e there is =
      let one : 1 ≤ sum_by (of_number n) (shown_files s) = (let more = sum-part (of_number n) (shown_files s) n e (such-found is_shown n e there is) in let here : of_number n e ≡ 1 = ap (λ (b : Bool). cond {A = ℕ} b 1 0) (eq-eqb e.number n (entry_at-number s.entries n e there)) in omega (arith, more, here)) in
      found-in (base_of s) n e base-there there (omega (arith, one, sum_by-append (of_number n) (directories s) (shown_files s)))

  -- each entry stands in the order once
  parts-sum : (f : Entry → ℕ) → sum_by f (order_of s) ≡ sum_by f s.entries
  parts-sum f =
      let fresh : sum_by f (filter is_new (dirty_files s)) ≡ sum_by (λ e. if is_dirty e.body then (if is_new e then f e else 0) else 0) s.entries =
      filter-sum f is_new (dirty_files s) ∙ such-sum (λ e. if is_new e then f e else 0) is_dirty in
      let all = four-sums (λ e. if is_directory e.body then f e else 0) (λ e. if is_shown e.body then f e else 0) (λ e. if is_dirty e.body then (if is_new e then f e else 0) else 0) (λ e. if is_symlink e.body then f e else 0) f s.entries
      (all-entries (λ e. (if is_directory e.body then f e else 0) + (if is_shown e.body then f e else 0) + (if is_dirty e.body then (if is_new e then f e else 0) else 0) + (if is_symlink e.body then f e else 0) ≡ f e) 0 s.entries s.next h.numbers
      (λ e here. kinds e.body (f e) (plain e here) (entry_at-all (λ e. IsSound e.body) s.entries e.number e h.bodies here))) in
      omega (
        arith,
        all,
        fresh,
        such-sum f is_directory,
        such-sum f is_shown,
        such-sum f is_symlink,
        sum_by-append f (base_of s) (filter is_new (dirty_files s) ++ symlinks s),
        sum_by-append f (directories s) (shown_files s),
        sum_by-append f (filter is_new (dirty_files s)) (symlinks s),
      )
    where
      kinds : (body : Body) (k : ℕ) → IsPlainKind body → IsSound body → (if is_directory body then k else 0) + (if is_shown body then k else 0) + (if is_dirty body then (if not (is_shown body) then k else 0) else 0) + (if is_symlink body then k else 0) ≡ k
      kinds (File text true (Some shown)) k kind sound = omega arith
      kinds (File text false (Some shown)) k kind sound = omega arith
      kinds (File text true None) k kind sound = omega arith
      kinds (File text false None) k kind sound = let never : None ≡ Some text = sound.clean refl in absurd cc
      kinds Dir k kind sound = omega arith
      kinds (Symlink target) k kind sound = omega arith
      kinds (Semantic q permanent prohibited) k kind sound = omega arith
      kinds (Mount space kept) k kind sound = let no = kind.mount in absurd cc
      kinds Document k kind sound = let no = kind.document in absurd cc

  pub order-complete : (n : ℕ) → Lives s.entries n → Lives (order_of s) n
  order-complete n (inl root) = inl root
  order-complete n (inr (e, there)) =
      let more = sum-part (of_number n) s.entries n e there in
      let one : of_number n e ≡ 1 = ap (λ (b : Bool). cond {A = ℕ} b 1 0) (eq-eqb e.number n (entry_at-number s.entries n e there)) in
      inr (e, found-in (order_of s) n e order-there there (omega (arith, more, one, parts-sum (of_number n))))

  -- each directory is behind its own
  directories-rooted : (before rest : List Entry) → directories s ≡ before ++ rest → Sorted s rest → Rooted before rest
  directories-rooted before [] is order = tt
  directories-rooted before (e ∷ rest) is order = (parent, directories-rooted (before ++ e ∷ []) rest (is ∙ sym (append_assoc before (e ∷ []) rest)) order.1)
    where
      here : IsThere e
      here = behind before (subst (λ (l : List Entry). AllByRecursion IsThere l) is (such-there is_directory))
        where
          behind : (before : List Entry) → AllByRecursion IsThere (before ++ e ∷ rest) → IsThere e
          behind [] all = all.0
          behind (x ∷ before) all = behind before all.1

      -- it lies in the root, or in a directory that is one of them
      parent : Lives before e.parent
      parent = from (directory-lives s.entries e.parent dir)
        where
          dir : is_directory_at s.entries e.parent ≡ true
          dir = parent-directory s e.number e h here

          from : Lives s.entries e.parent → Lives before e.parent
          from (inl root) = inl root
          from (inr (p, there)) = split before (subst (λ (l : List Entry). entry_at l e.parent ≡ Some p) is (such-found is_directory e.parent p there made))
            where
              number : p.number ≡ e.parent
              number = entry_at-number s.entries e.parent p there

              made : is_directory p.body ≡ true
              made = either (e.parent == 0) refl (sym (ap (λ (o : Option Entry). (e.parent == 0) || option_map_or is_directory (option_map (λ (e : Entry). e.body) o) false) there) ∙ dir)
                where
                  either : (b : Bool) → (e.parent == 0) ≡ b → (b || is_directory p.body) ≡ true → is_directory p.body ≡ true
                  either true root _ = let none : None ≡ Some p = sym (ap (entry_at s.entries) (eqb-true e.parent 0 root) ∙ root-none s h) ∙ there in absurd cc
                  either false _ is = is

              before-it : is_path_before s p e ≡ true
              before-it =
                  (λ i. is_before (path_text (path_of s (number i))) (path_text (path_of-parent s e.number e h here i)))
                  ∙ parent-before (path_of s e.parent) e.name (λ none. let deep = path_of-deeper s e.parent p h there in let empty : length (path_of s e.parent) ≡ 0 = ap (λ (l : List (List ℕ)). length l) none in absurd (omega (arith, deep, empty)))

              never : (fs : List Entry) → AllByRecursion (λ f. is_path_before s f e ≡ false) fs → entry_at fs e.parent ≡ Some p → ⊥
              never fs none found = let no : is_path_before s p e ≡ false = entry_at-all (λ f. is_path_before s f e ≡ false) fs e.parent p none found in let both : true ≡ false = sym before-it ∙ no in absurd cc

              -- it isn't the directory itself, and none behind it
              split : (before : List Entry) → entry_at (before ++ e ∷ rest) e.parent ≡ Some p → Lives before e.parent
              split [] found = elim (e.number == e.parent) as (λ b. (e.number == e.parent) ≡ b → cond b (Some e) (entry_at rest e.parent) ≡ Some p → Lives [] e.parent) [
                | true ↦ (λ same _.
                    let deep = path_of-deeper s e.number e h here in
                    let even : length (path_of s e.number) ≡ length (path_of s e.parent) = ap (λ (n : ℕ). length (path_of s n)) (eqb-true e.number e.parent same) in
                    absurd (omega (arith, deep, even)))
                | false ↦ (λ _ found. absurd (never rest order.0 found))
              ] refl found
              split (x ∷ before) found = elim (x.number == e.parent) as (λ b. (x.number == e.parent) ≡ b → cond b (Some x) (entry_at (before ++ e ∷ rest) e.parent) ≡ Some p → Lives (x ∷ before) e.parent) [
                | true ↦ (λ same _. inr (x, ap (λ (b : Bool). cond b (Some x) (entry_at before e.parent)) same))
                | false ↦ (λ other found. later other (split before found))
              ] refl found
                where
                  later : (x.number == e.parent) ≡ false → Lives before e.parent → Lives (x ∷ before) e.parent
                  later other (inl root) = inl root
                  later other (inr (f, found)) = inr (f, ap (λ (b : Bool). cond b (Some x) (entry_at before e.parent)) other ∙ found)

  -- the other entries are behind all directories
  others-rooted : (more rest : List Entry) → AllByRecursion IsThere rest → Rooted (directories s ++ more) rest
  others-rooted more [] all = tt
  others-rooted more (e ∷ rest) all = (
    lives-more (directories s) more e.parent (parent (directory-lives s.entries e.parent (parent-directory s e.number e h all.0))),
    subst (λ (l : List Entry). Rooted l rest) (sym (append_assoc (directories s) more (e ∷ []))) (others-rooted (more ++ e ∷ []) rest all.1),
  )
    where
      parent : Lives s.entries e.parent → Lives (directories s) e.parent
      parent (inl root) = inl root
      parent (inr (p, there)) = inr (p, such-found is_directory e.parent p there (either (e.parent == 0) refl (sym (ap (λ (o : Option Entry). (e.parent == 0) || option_map_or is_directory (option_map (λ (e : Entry). e.body) o) false) there) ∙ parent-directory s e.number e h all.0)))
        where
          either : (b : Bool) → (e.parent == 0) ≡ b → (b || is_directory p.body) ≡ true → is_directory p.body ≡ true
          either true root _ = let none : None ≡ Some p = sym (ap (entry_at s.entries) (eqb-true e.parent 0 root) ∙ root-none s h) ∙ there in absurd cc
          either false _ is = is

  rooted-joined : (before xs ys : List Entry) → Rooted before xs → Rooted (before ++ xs) ys → Rooted before (xs ++ ys)
  rooted-joined before [] ys first second = subst (λ (l : List Entry). Rooted l ys) (append-nil before) second
  rooted-joined before (x ∷ xs) ys first second = (first.0, rooted-joined (before ++ x ∷ []) xs ys first.1 (subst (λ (l : List Entry). Rooted l ys) (sym (append_assoc before (x ∷ []) xs)) second))

  -- so the tree can be made in this order
  pub order-is : IsOrder s (renumber s) (order_of s)
  order-is = record {
    root = place-none 1 (order_of s) 0 (number-none (order_of s) 0 (let all = parts-sum (of_number 0) in let none = zero-sum in omega (arith, all, none)));
    counted = counted-places 1 (order_of s) (λ n. let all = parts-sum (of_number n) in let once = number-once 0 s.entries s.next n h.numbers in omega (arith, all, once));
    from = order-there;
    rooted = subst (λ (l : List Entry). Rooted [] l) (sym (append_assoc (directories s) (shown_files s) (filter is_new (dirty_files s) ++ symlinks s)))
        (rooted-joined [] (directories s) (shown_files s ++ (filter is_new (dirty_files s) ++ symlinks s)) (directories-rooted [] (directories s) refl (sorted s (filter (λ e. is_directory e.body) s.entries)))
        (subst (λ (l : List Entry). Rooted l (shown_files s ++ (filter is_new (dirty_files s) ++ symlinks s))) (append-nil (directories s))
        (others-rooted [] (shown_files s ++ (filter is_new (dirty_files s) ++ symlinks s)) (all-joined IsThere (shown_files s) (filter is_new (dirty_files s) ++ symlinks s) (such-there is_shown) rest-there))));
    sums = λ f. let all = parts-sum f in omega (arith, all);
  }
    where
      zero-sum : sum_by (of_number 0) s.entries ≡ 0
      zero-sum = at (sum_by (of_number 0) s.entries) refl
        where
          at : (k : ℕ) → sum_by (of_number 0) s.entries ≡ k → k ≡ 0
          at zero is = refl
          at (suc k) is = let found = number-found s.entries 0 (omega (arith, is)) in let none : None ≡ Some found.0 = sym (root-none s h) ∙ found.1 in absurd cc
