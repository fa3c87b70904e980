-- Where paths lead on which no symbolic link is followed.
use Rattle.std.proofs.lemmas.List.Folds.{list_all-append}
use Rattle.std.proofs.Common.{◌≡◌, ℕ, zero, suc, ◌-◌, Bool, true, false, cond, List, [], ◌∷◌, ◌++◌, subst, refl, ap, sym, ◌∙◌, eq-eqb, inl, inr, append_assoc, length}
use Rattle.std.specs.Prelude.{◌==◌, ◌&&◌, ◌||◌, not, take, Option, Some, None, Result, Ok, Err, is_some, is_none, if◌then◌else◌, IsTrue}
use Rattle.std.specs.Option.{option_map, option_map_or}
use Rattle.std.specs.Str.{bytes_eq}
use Rattle.std.proofs.lemmas.Bool.{and_from, and_parts, not-false}
use Rattle.std.proofs.lemmas.List.{append-nil}
use Rattle.hac_model.specs.Tree.Events.{is_vacant}
use Rattle.hac_model.specs.Tree.Looks.{has_names, destination}
use Rattle.hac_model.specs.Tree.Names.{is_name}
use Rattle.hac_model.specs.Tree.Paths.{are_names, join, without_last, origin}
use Rattle.hac_model.specs.Tree.{child, entry_at, is_directory, is_directory_at, is_file, is_file_at, is_leaf, is_leaf_at, is_made_directory, is_symlink, is_symlink_at, path_of, body_at, is_document, is_document_at, is_linkable}
use Rattle.hac_model.specs.Tree.Valid.{IsLayout}
use Rattle.hac_model.specs.declared.paths.PathWord.{PathWord}
use Rattle.hac_model.specs.declared.places.Place.{Place}
use Rattle.hac_model.specs.declared.places.Place.TheVariants.{There, Free}
use Rattle.hac_model.specs.declared.replies.Refusal.{Refusal}
use Rattle.hac_model.specs.declared.replies.Refusal.TheVariants.{NoPath, NotDir}
use Rattle.hac_model.specs.declared.states.Body.{Body}
use Rattle.hac_model.specs.declared.states.Body.TheVariants.{File, Dir, Symlink, Semantic, Mount, Document}
use Rattle.hac_model.specs.declared.states.Entry.{Entry}
use Rattle.hac_model.specs.declared.states.State.{State}
use Rattle.hac_model.proofs.PathLemmas.{path_of-parent, path_of-root, from_root}
use Rattle.hac_model.proofs.TreeLemmas.{Lives, child-entry, entry_at-all, entry_at-cases}
use Rattle.hac_model.proofs.Walks.{destination-walk, walk}
use Rattle.hac_model.specs.Tree.Links.{is_item}

found-more : (b : Bool) (e : Entry) (o : Option Entry) → is_some o ≡ true → is_some (cond b (Some e) o) ≡ true
found-more true e o h = refl
found-more false e o h = h

-- what a directory has under a name has an entry
child-some : (es : List Entry) (dir : ℕ) (name : List ℕ) (n : ℕ) → child es dir name ≡ Some n → is_some (entry_at es n) ≡ true
child-some [] dir name n h = absurd cc
child-some (e ∷ es) dir name n h =
    elim (e.parent == dir && bytes_eq e.name name) as (λ b. cond b (Some e.number) (child es dir name) ≡ Some n → is_some (entry_at (e ∷ es) n) ≡ true) [
      | true ↦ (λ h. let same : e.number ≡ n = cc in ap (λ (b : Bool). is_some (cond b (Some e) (entry_at es n))) (eq-eqb e.number n same))
      | false ↦ (λ h. found-more (e.number == n) e (entry_at es n) (child-some es dir name n h))
    ] h

pub child-lives : (es : List Entry) (dir : ℕ) (name : List ℕ) (n : ℕ) → child es dir name ≡ Some n → Lives es n
child-lives es dir name n h = elim (entry_at-cases es n) [
  | inl none ↦ (let never : false ≡ true = ap (λ (o : Option Entry). is_some o) (sym none) ∙ child-some es dir name n h in absurd cc)
  | inr found ↦ inr found
]

-- what is no directory and fails another test passes a third, where all bodies do so
kind-or_directory : (fails passes : Body → Bool) → ((body : Body) → is_directory body ≡ false → fails body ≡ false → passes body ≡ true) → (s : State) (n : ℕ) → Lives s.entries n → is_directory_at s.entries n ≡ false →
    option_map_or fails (body_at s.entries n) false ≡ false → option_map_or passes (body_at s.entries n) false ≡ true
kind-or_directory fails passes cases s n (inl root) h other = let never : true ≡ false = ap (λ (k : ℕ). is_directory_at s.entries k) (sym root) ∙ h in absurd cc
kind-or_directory fails passes cases s n (inr found) h other =
    elim (n == 0) as (λ b. (b || is_made_directory s.entries n) ≡ false → option_map_or passes (body_at s.entries n) false ≡ true) [ true ↦ (λ h. absurd cc) | false ↦ (λ h. made h) ] h
  where
    tested : (test : Body → Bool) → option_map_or test (body_at s.entries n) false ≡ test found.0.body
    tested test = ap (λ (o : Option Entry). option_map_or test (option_map (λ (e : Entry). e.body) o) false) found.1

    made : is_made_directory s.entries n ≡ false → option_map_or passes (body_at s.entries n) false ≡ true
    made h = tested passes ∙ cases found.0.body (sym (tested is_directory) ∙ h) (sym (tested fails) ∙ other)

-- what lives is a document, a leaf or a directory
pub leaf-or_directory : (s : State) (n : ℕ) → Lives s.entries n → is_directory_at s.entries n ≡ false → is_document_at s.entries n ≡ false → is_leaf_at s.entries n ≡ true
leaf-or_directory s n lives h other = kind-or_directory is_document is_leaf cases s n lives h other
  where
    cases : (body : Body) → is_directory body ≡ false → is_document body ≡ false → is_leaf body ≡ true
    cases (File text dirty shown) h other = refl
    cases (Symlink target) h other = refl
    cases rest h other = absurd cc

-- what lives is a symbolic link, an item or a directory
pub item-or_directory : (s : State) (n : ℕ) → Lives s.entries n → is_directory_at s.entries n ≡ false → is_symlink_at s.entries n ≡ false → is_item s n ≡ true
item-or_directory s n lives h other = kind-or_directory is_symlink is_linkable cases s n lives h other
  where
    cases : (body : Body) → is_directory body ≡ false → is_symlink body ≡ false → is_linkable body ≡ true
    cases (File text dirty shown) h other = refl
    cases Document h other = refl
    cases rest h other = absurd cc

-- a leaf is a file or a symbolic link
pub leaf-file : (s : State) (n : ℕ) → is_leaf_at s.entries n ≡ true → is_symlink_at s.entries n ≡ false → is_file_at s.entries n ≡ true
leaf-file s n h other =
    elim (entry_at s.entries n) as (λ o. option_map_or is_leaf (option_map (λ (e : Entry). e.body) o) false ≡ true → option_map_or is_symlink (option_map (λ (e : Entry). e.body) o) false ≡ false → option_map_or is_file (option_map (λ (e : Entry). e.body) o) false ≡ true) [
      | None ↦ (λ h other. h)
      | Some e ↦ (λ h other. body e.body h other)
    ] h other
  where
    body : (b : Body) → is_leaf b ≡ true → is_symlink b ≡ false → is_file b ≡ true
    body (File text dirty shown) h other = refl
    body Dir h other = h
    body (Semantic query permanent prohibited) h other = h
    body (Symlink target) h other = absurd cc
    body (Mount space answers) h other = h
    body Document h other = h

-- where a name that isn't missing leads on
on : List Entry → List (List ℕ) → List (List ℕ) → ℕ → Result Place Refusal
on es walked names number = cond (has_names names && not (is_directory_at es number)) (Err (NotDir walked)) (walk es number walked names)

-- what a missing name is
missing : ℕ → List ℕ → List (List ℕ) → List (List ℕ) → Result Place Refusal
missing dir name walked names = cond (has_names names) (Err (NoPath walked)) (Ok (Free dir name))

walk-name : (es : List Entry) (dir : ℕ) (walked : List (List ℕ)) (name : List ℕ) (names : List (List ℕ)) → walk es dir walked (name ∷ names) ≡ option_map_or (on es (walked ++ name ∷ []) names) (child es dir name) (missing dir name (walked ++ name ∷ []) names)
unfolding on missing
walk-name es dir walked name names = refl

missing-there : (dir : ℕ) (name : List ℕ) (walked names : List (List ℕ)) (n : ℕ) → missing dir name walked names ≡ Ok (There n) → ⊥
unfolding missing
missing-there dir name walked names n h = elim (has_names names) as (λ b. cond b (Err (NoPath walked)) (Ok (Free dir name)) ≡ Ok (There n) → ⊥) [ true ↦ (λ h. cc) | false ↦ (λ h. cc) ] h

missing-free : (dir : ℕ) (name : List ℕ) (walked names : List (List ℕ)) (d : ℕ) (x : List ℕ) → missing dir name walked names ≡ Ok (Free d x) → (dir ≡ d) × (name ≡ x)
unfolding missing
missing-free dir name walked names d x h = elim (has_names names) as (λ b. cond b (Err (NoPath walked)) (Ok (Free dir name)) ≡ Ok (Free d x) → (dir ≡ d) × (name ≡ x)) [
  | true ↦ (λ h. absurd cc)
  | false ↦ (λ h. let dirs : dir ≡ d = cc in let names : name ≡ x = cc in (dirs, names))
] h

on-goes : (es : List Entry) (walked names : List (List ℕ)) (number : ℕ) (p : Place) → on es walked names number ≡ Ok p → ((has_names names && not (is_directory_at es number)) ≡ false) × (walk es number walked names ≡ Ok p)
unfolding on
on-goes es walked names number p h = elim (has_names names && not (is_directory_at es number)) as (λ b. cond b (Err (NotDir walked)) (walk es number walked names) ≡ Ok p → (b ≡ false) × (walk es number walked names ≡ Ok p)) [
  | true ↦ (λ h. absurd cc)
  | false ↦ (λ h. (refl, h))
] h

-- what a walk leads to lives
walk-lives : (es : List Entry) (dir : ℕ) (walked names : List (List ℕ)) (n : ℕ) → Lives es dir → walk es dir walked names ≡ Ok (There n) → Lives es n
walk-lives es dir walked [] n lives h = let same : dir ≡ n = cc in subst (λ (k : ℕ). Lives es k) same lives
walk-lives es dir walked (name ∷ names) n lives h =
    elim (child es dir name) as (λ o. child es dir name ≡ o → option_map_or (on es (walked ++ name ∷ []) names) o (missing dir name (walked ++ name ∷ []) names) ≡ Ok (There n) → Lives es n) [
      | None ↦ (λ found h. absurd (missing-there dir name (walked ++ name ∷ []) names n h))
      | Some m ↦ (λ found h. walk-lives es m (walked ++ name ∷ []) names n (child-lives es dir name m found) (on-goes es (walked ++ name ∷ []) names m (There n) h).1)
    ] refl (sym (walk-name es dir walked name names) ∙ h)

-- a place is free where a directory has nothing of a name
pub record IsFreePlace (es : List Entry) (dir : ℕ) (name : List ℕ) : Type 0 where
  pub directory : is_directory_at es dir ≡ true
  pub named : is_name name ≡ true
  pub empty : child es dir name ≡ None

-- a walk from a directory over names stops at a directory that has nothing of the last name
walk-free : (s : State) (dir : ℕ) (walked names : List (List ℕ)) (d : ℕ) (x : List ℕ) → IsLayout s → is_directory_at s.entries dir ≡ true → are_names names ≡ true → walk s.entries dir walked names ≡ Ok (Free d x) → IsFreePlace s.entries d x
walk-free s dir walked [] d x layout directory named h = absurd cc
walk-free s dir walked (name ∷ names) d x layout directory named h =
    let parts = and_parts (is_name name) (are_names names) named in
    elim (child s.entries dir name) as (λ o. child s.entries dir name ≡ o → option_map_or (on s.entries (walked ++ name ∷ []) names) o (missing dir name (walked ++ name ∷ []) names) ≡ Ok (Free d x) → IsFreePlace s.entries d x) [
      | None ↦ (λ found h.
          let same = missing-free dir name (walked ++ name ∷ []) names d x h in
          subst (λ (y : List ℕ). IsFreePlace s.entries d y) same.1 (subst (λ (k : ℕ). IsFreePlace s.entries k name) same.0 (record { directory = directory; named = parts.0; empty = found })))
      | Some m ↦ (λ found h.
          let goes = on-goes s.entries (walked ++ name ∷ []) names m (Free d x) h in
          further names m (child-lives s.entries dir name m found) goes.0 goes.1 (λ directory. walk-free s m (walked ++ name ∷ []) names d x layout directory parts.1 goes.1))
    ] refl (sym (walk-name s.entries dir walked name names) ∙ h)
  where
    further : (rest : List (List ℕ)) (m : ℕ) → Lives s.entries m → (has_names rest && not (is_directory_at s.entries m)) ≡ false → walk s.entries m (walked ++ name ∷ []) rest ≡ Ok (Free d x) → (is_directory_at s.entries m ≡ true → IsFreePlace s.entries d x) → IsFreePlace s.entries d x
    further [] m lives goes h on_from = absurd cc
    further (y ∷ rest) m lives goes h on_from = on_from (not-false (is_directory_at s.entries m) goes)

-- what a path leads to lives
pub destination-lives : (s : State) (path : List (List ℕ)) (n : ℕ) → destination s path ≡ Ok (There n) → Lives s.entries n
destination-lives s path n h = walk-lives s.entries 0 [] path n (inl refl) (sym (destination-walk s path) ∙ h)

-- what it leads to and is missing is a free place
pub destination-free : (s : State) (path : List (List ℕ)) (dir : ℕ) (name : List ℕ) → IsLayout s → are_names path ≡ true → destination s path ≡ Ok (Free dir name) → IsFreePlace s.entries dir name
destination-free s path dir name layout named h = walk-free s 0 [] path dir name layout refl named (sym (destination-walk s path) ∙ h)

-- the names of a path are names
pub path-named : (s : State) (n : ℕ) → IsLayout s → Lives s.entries n → are_names (path_of s n) ≡ true
path-named s n h lives = from_root s (λ n. are_names (path_of s n) ≡ true) h (ap are_names (path_of-root s h)) below n lives
  where
    below : (n : ℕ) (e : Entry) → entry_at s.entries n ≡ Some e → are_names (path_of s e.parent) ≡ true → are_names (path_of s n) ≡ true
    below n e found above =
        ap are_names (path_of-parent s n e h found)
        ∙ list_all-append is_name (path_of s e.parent) (e.name ∷ [])
        ∙ and_from (are_names (path_of s e.parent)) (is_name e.name && true) above (and_from (is_name e.name) true (entry_at-all (λ e. IsTrue (is_name e.name)) s.entries n e h.names found) refl)

take-named : (n : ℕ) (path : List (List ℕ)) → are_names path ≡ true → are_names (take n path) ≡ true
take-named zero path h = refl
take-named (suc n) [] h = refl
take-named (suc n) (name ∷ path) h =
    let parts = and_parts (is_name name) (are_names path) h in
    and_from (is_name name) (are_names (take n path)) parts.0 (take-named n path parts.1)

pub join-named : (base : List (List ℕ)) (word : PathWord) → are_names base ≡ true → are_names word.names ≡ true → are_names (join base word) ≡ true
join-named base word above named =
    list_all-append is_name (origin base word) word.names
    ∙ and_from (are_names (origin base word)) (are_names word.names) (front word.absolute) named
  where
    front : (absolute : Bool) → are_names (if absolute then [] else without_last word.ups base) ≡ true
    front true = refl
    front false = take-named (length base - word.ups) base above

pub vacant-is : (s : State) (dir : ℕ) (name : List ℕ) → IsFreePlace s.entries dir name → is_vacant s dir name ≡ true
vacant-is s dir name h =
    and_from (is_directory_at s.entries dir && is_name name) (is_none (child s.entries dir name)) (and_from (is_directory_at s.entries dir) (is_name name) h.directory h.named) (ap (λ (o : Option ℕ). is_none o) h.empty)

-- In a valid state what is found has the path that was looked up.

pub child-path : (s : State) (dir m : ℕ) (name : List ℕ) → IsLayout s → child s.entries dir name ≡ Some m → path_of s m ≡ path_of s dir ++ name ∷ []
child-path s dir m name h found =
    let there = child-entry 0 s.entries s.next dir m name h.numbers found in
    path_of-parent s m there.0 h there.1
    ∙ ap (λ (d : ℕ). path_of s d ++ there.0.name ∷ []) there.2
    ∙ ap (λ (x : List ℕ). path_of s dir ++ x ∷ []) there.3

walk-found : (s : State) (dir : ℕ) (walked names : List (List ℕ)) (n : ℕ) → IsLayout s → path_of s dir ≡ walked → walk s.entries dir walked names ≡ Ok (There n) → path_of s n ≡ walked ++ names
walk-found s dir walked [] n h path leads = let same : dir ≡ n = cc in ap (λ (k : ℕ). path_of s k) (sym same) ∙ path ∙ sym (append-nil walked)
walk-found s dir walked (name ∷ names) n h path leads =
    elim (child s.entries dir name) as (λ o. child s.entries dir name ≡ o → option_map_or (on s.entries (walked ++ name ∷ []) names) o (missing dir name (walked ++ name ∷ []) names) ≡ Ok (There n) → path_of s n ≡ walked ++ name ∷ names) [
      | None ↦ (λ found leads. absurd (missing-there dir name (walked ++ name ∷ []) names n leads))
      | Some m ↦ (λ found leads.
          let here : path_of s m ≡ walked ++ name ∷ [] = child-path s dir m name h found ∙ ap (λ (p : List (List ℕ)). p ++ name ∷ []) path in
          walk-found s m (walked ++ name ∷ []) names n h here (on-goes s.entries (walked ++ name ∷ []) names m (There n) leads).1
          ∙ append_assoc walked (name ∷ []) names)
    ] refl (sym (walk-name s.entries dir walked name names) ∙ leads)

-- a path that leads to something is its path
pub destination-found : (s : State) (path : List (List ℕ)) (n : ℕ) → IsLayout s → destination s path ≡ Ok (There n) → path_of s n ≡ path
destination-found s path n h leads = walk-found s 0 [] path n h (path_of-root s h) (sym (destination-walk s path) ∙ leads)
