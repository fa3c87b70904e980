-- A look-up is a walk from directory to directory.
use Rattle.std.proofs.Common.{◌≡◌, ℕ, zero, suc, ◌-◌, Bool, true, false, cond, List, [], ◌∷◌, ◌++◌, length, subst, refl, ap, sym, ◌∙◌, arith, inl, inr, append_assoc, length-append}
use Rattle.std.specs.Prelude.{◌&&◌, ◌||◌, not, take, Option, Some, None, Result, Ok, Err, option_and_then}
use Rattle.std.specs.Option.{option_map_or}
use Rattle.std.proofs.lemmas.List.{take-append-le, take_all}
use Rattle.hac_model.specs.Tree.Links.{parent_of}
use Rattle.hac_model.specs.Tree.Looks.{final_path, has_names, link_at, link_to_follow, look, destination, next_path, next_path_behind, stands_at, target_word}
use Rattle.hac_model.specs.Tree.Paths.{join, origin, without_last}
use Rattle.hac_model.specs.Tree.{body_at, child, entry_at, is_directory_at, path_of, target_in}
use Rattle.hac_model.specs.Tree.Valid.{IsLayout}
use Rattle.hac_model.specs.declared.limits.TheConstants.{FOLLOW_LIMIT}
use Rattle.hac_model.specs.declared.paths.PathWord.{PathWord}
use Rattle.hac_model.specs.declared.places.Place.{Place}
use Rattle.hac_model.specs.declared.places.Place.TheVariants.{Free}
use Rattle.hac_model.specs.declared.replies.Refusal.{Refusal}
use Rattle.hac_model.specs.declared.replies.Refusal.TheVariants.{Loop, NoPath, NotDir}
use Rattle.hac_model.specs.declared.states.Entry.{Entry}
use Rattle.hac_model.specs.declared.states.State.{State}
use Rattle.hac_model.proofs.FollowLemmas.{next_path-directory}
use Rattle.hac_model.proofs.LookLemmas.{child-lives, child-path}
use Rattle.hac_model.proofs.PathLemmas.{parent-directory, path_of-parent, path_of-root, root-none, walk-path, walk_on}
use Rattle.hac_model.proofs.PlainLemmas.{stands-last, stands-path}
use Rattle.hac_model.proofs.TreeLemmas.{Lives, child-entry, directory-lives}
use Rattle.hac_model.proofs.Walks.{destination-walk, walk}
use Rattle.command_paths.specs.Traces.{begin, step_to, steps, trace, up, word_met}
use Rattle.hac_names.proofs.Walks.{nothing_left}
use Rattle.hac_model.proofs.BoolLemmas.{and-false}

-- Where words begin.

-- a path without its last names is one of them shorter, and then without the rest
without-last : (k : ℕ) (path : List (List ℕ)) (name : List ℕ) → without_last (suc k) (path ++ name ∷ []) ≡ without_last k path
without-last k path name =
    let fewer : length (path ++ name ∷ []) - suc k ≡ length path - k = omega (arith, length-append path (name ∷ [])) in
    ap (λ (n : ℕ). take n (path ++ name ∷ [])) fewer ∙ take-append-le (length path - k) path (name ∷ []) (omega arith)

-- a path that leads to a directory
pub record Leads (s : State) (path : List (List ℕ)) (dir : ℕ) : Type 0 where
  pub path_is : path_of s dir ≡ path
  pub directory : is_directory_at s.entries dir ≡ true

-- what is above a directory has a shorter path
pub up-leads : (s : State) (k dir : ℕ) → IsLayout s → is_directory_at s.entries dir ≡ true → Leads s (without_last k (path_of s dir)) (up k s dir)
up-leads s zero dir h is = record { path_is = sym (take_all (length (path_of s dir) - 0) (path_of s dir) (omega arith)); directory = is }
up-leads s (suc k) dir h is = by_life (directory-lives s.entries dir is) (λ above there. up-leads s k above h there)
  where
    by_life : Lives s.entries dir → ((above : ℕ) → is_directory_at s.entries above ≡ true → Leads s (without_last k (path_of s above)) (up k s above)) → Leads s (without_last (suc k) (path_of s dir)) (up k s (parent_of s dir))
    by_life (inl root) on =
        let none : entry_at s.entries dir ≡ None = ap (entry_at s.entries) root ∙ root-none s h in
        let stays : 0 ≡ parent_of s dir = sym (ap (λ (o : Option Entry). option_map_or (λ entry. entry.parent) o 0) none) in
        let above = on 0 refl in
        let bare : path_of s dir ≡ [] = ap (path_of s) root ∙ path_of-root s h in
        let short : without_last k (path_of s 0) ≡ without_last (suc k) (path_of s dir) =
        ap (without_last k) (path_of-root s h) ∙ nothing_left k ∙ sym (ap (without_last (suc k)) bare ∙ nothing_left (suc k)) in
        subst (λ (d : ℕ). Leads s (without_last (suc k) (path_of s dir)) (up k s d)) stays
        (subst (λ (p : List (List ℕ)). Leads s p (up k s 0)) short above)
    by_life (inr (e, found)) on =
        let parent : e.parent ≡ parent_of s dir = sym (ap (λ (o : Option Entry). option_map_or (λ entry. entry.parent) o 0) found) in
        let above = on e.parent (parent-directory s dir e h found) in
        let short : without_last k (path_of s e.parent) ≡ without_last (suc k) (path_of s dir) =
        sym (ap (without_last (suc k)) (path_of-parent s dir e h found) ∙ without-last k (path_of s e.parent) e.name) in
        subst (λ (d : ℕ). Leads s (without_last (suc k) (path_of s dir)) (up k s d)) parent
        (subst (λ (p : List (List ℕ)). Leads s p (up k s e.parent)) short above)

-- a word begins where its path does
pub begin-leads : (s : State) (dir : ℕ) (word : PathWord) → IsLayout s → is_directory_at s.entries dir ≡ true → Leads s (origin (path_of s dir) word) (begin s dir word)
begin-leads s dir word h is = elim word.absolute as (λ b. Leads s (cond b [] (without_last word.ups (path_of s dir))) (cond b 0 (up word.ups s dir))) [
  | true ↦ record { path_is = path_of-root s h; directory = refl }
  | false ↦ up-leads s word.ups dir h is
]

pub join-begins : (s : State) (dir : ℕ) (word : PathWord) (rest : List (List ℕ)) → IsLayout s → is_directory_at s.entries dir ≡ true → join (path_of s dir) word ++ rest ≡ path_of s (begin s dir word) ++ (word.names ++ rest)
join-begins s dir word rest h is =
    append_assoc (origin (path_of s dir) word) word.names rest
    ∙ ap (λ (p : List (List ℕ)). p ++ (word.names ++ rest)) (sym (begin-leads s dir word h is).path_is)

-- Paths that lead on from a directory.

module _ (s : State) (follow : Bool) (h : IsLayout s) where
  -- no link is met where nothing stands
  missing-unmet : (walked names : List (List ℕ)) → stands_at s.entries 0 walked ≡ None → link_to_follow s follow walked names ≡ None
  missing-unmet walked names none =
      elim (follow || has_names names) as (λ b. cond b (link_at s walked) None ≡ None) [
        | true ↦ ap (λ (o : Option ℕ). option_and_then target_word (option_and_then target_in (option_and_then (body_at s.entries) o))) none
        | false ↦ refl
      ]

  -- nor behind it
  unmet-behind : (walked names : List (List ℕ)) → ((name : List ℕ) → stands_at s.entries 0 (walked ++ name ∷ []) ≡ None) → next_path_behind s follow walked names ≡ None
  unmet-behind walked [] none = refl
  unmet-behind walked (name ∷ names) none =
      ap (λ (o : Option PathWord). option_map_or (λ word. Some (join walked word ++ names)) o (next_path_behind s follow (walked ++ name ∷ []) names)) (missing-unmet (walked ++ name ∷ []) names (none name))
      ∙ unmet-behind (walked ++ name ∷ []) names (λ next. stands-last s.entries 0 (walked ++ name ∷ []) next ∙ ap (λ (o : Option ℕ). option_and_then (λ number. child s.entries number next) o) (none name))

  -- nothing is in what is no directory
  no-child : (n : ℕ) (name : List ℕ) → is_directory_at s.entries n ≡ false → child s.entries n name ≡ None
  no-child n name other = at (child s.entries n name) refl
    where
      at : (o : Option ℕ) → child s.entries n name ≡ o → child s.entries n name ≡ None
      at None found = found
      at (Some m) found =
          let there = child-entry 0 s.entries s.next n m name h.numbers found in
          let is : is_directory_at s.entries n ≡ true = ap (λ (d : ℕ). is_directory_at s.entries d) (sym there.2) ∙ parent-directory s m there.0 h there.1 in
          let never : true ≡ false = sym is ∙ other in
          absurd cc

  -- the link of a number is met at its path
  met-at : (n : ℕ) (names : List (List ℕ)) → Lives s.entries n → link_to_follow s follow (path_of s n) names ≡ word_met s follow n names
  met-at n names lives = ap (λ (o : Option ℕ). cond (follow || has_names names) (option_and_then target_word (option_and_then target_in (option_and_then (body_at s.entries) o))) None) (stands-path s n h lives)

  -- where a path leads, given its replacement and where replaced paths lead
  abbrev leads : (List (List ℕ) → Option (List (List ℕ))) → List (List ℕ) → Option (List (List ℕ)) → List (List ℕ) → Result Place Refusal
  leads next given replacement path = option_map_or (λ found. destination s found) (option_map_or next replacement (Some path)) (Err (Loop given))

  -- where it leads if no link is met
  walked-on : (dir : ℕ) (names : List (List ℕ)) → is_directory_at s.entries dir ≡ true → destination s (path_of s dir ++ names) ≡ walk s.entries dir (path_of s dir) names
  walked-on dir names is =
      destination-walk s (path_of s dir ++ names)
      ∙ walk-path s dir names h (directory-lives s.entries dir is) (ap (λ (b : Bool). has_names names && not b) is ∙ and-false (has_names names))

  module _ (next : List (List ℕ) → Option (List (List ℕ))) (given : List (List ℕ)) (jump : ℕ → PathWord → List (List ℕ) → Result Place Refusal)
      (jumps : (dir : ℕ) (word : PathWord) (names : List (List ℕ)) → is_directory_at s.entries dir ≡ true → option_map_or (λ found. destination s found) (next (join (path_of s dir) word ++ names)) (Err (Loop given)) ≡ jump dir word names) where
    abbrev Goes : ℕ → List (List ℕ) → Type 0
    Goes dir names = is_directory_at s.entries dir ≡ true → leads next given (next_path_behind s follow (path_of s dir) names) (path_of s dir ++ names) ≡ steps s follow jump dir names

    -- a name that a directory hasn't got
    missing-goes : (dir : ℕ) (name : List ℕ) (names : List (List ℕ)) → child s.entries dir name ≡ None → Goes dir (name ∷ names)
    missing-goes dir name names found is =
        let path : List (List ℕ) = path_of s dir in
        let nothing : stands_at s.entries 0 (path ++ name ∷ []) ≡ None =
        stands-last s.entries 0 path name ∙ ap (λ (o : Option ℕ). option_and_then (λ number. child s.entries number name) o) (stands-path s dir h (directory-lives s.entries dir is)) ∙ found in
        let unmet : next_path_behind s follow path (name ∷ names) ≡ None =
        ap (λ (o : Option PathWord). option_map_or (λ word. Some (join path word ++ names)) o (next_path_behind s follow (path ++ name ∷ []) names)) (missing-unmet (path ++ name ∷ []) names nothing)
        ∙ unmet-behind (path ++ name ∷ []) names (λ more. stands-last s.entries 0 (path ++ name ∷ []) more ∙ ap (λ (o : Option ℕ). option_and_then (λ number. child s.entries number more) o) nothing) in
        ap (λ (o : Option (List (List ℕ))). leads next given o (path ++ name ∷ names)) unmet
        ∙ walked-on dir (name ∷ names) is
        ∙ ap (λ (o : Option ℕ). option_map_or (walk_on s.entries path name names) o (cond (has_names names) (Err (NoPath (path ++ name ∷ []))) (Ok (Free dir name)))) found
        ∙ sym (ap (λ (o : Option ℕ). option_map_or (step_to s follow jump dir name names (λ number. steps s follow jump number names)) o (cond (has_names names) (Err (NoPath (path ++ name ∷ []))) (Ok (Free dir name)))) found)

    -- an entry on which no link is to be followed
    entry-goes : (dir n : ℕ) (name : List ℕ) (names : List (List ℕ)) → child s.entries dir name ≡ Some n → is_directory_at s.entries dir ≡ true → Goes n names
        → leads next given (next_path_behind s follow (path_of s dir ++ name ∷ []) names) (path_of s dir ++ name ∷ names)
        ≡ cond (has_names names && not (is_directory_at s.entries n)) (Err (NotDir (path_of s dir ++ name ∷ []))) (steps s follow jump n names)
    entry-goes dir n name names found is on = at (is_directory_at s.entries n) refl
      where
        path : List (List ℕ)
        path = path_of s dir

        here : path_of s n ≡ path ++ name ∷ []
        here = child-path s dir n name h found

        stop : Bool → Result Place Refusal
        stop b = cond (has_names names && not b) (Err (NotDir (path ++ name ∷ []))) (steps s follow jump n names)

        ends : (names : List (List ℕ)) → walk_on s.entries path name names n ≡ cond (has_names names && not (is_directory_at s.entries n)) (Err (NotDir (path ++ name ∷ []))) (walk s.entries n (path ++ name ∷ []) names)
        ends names = refl

        leaf : (names : List (List ℕ)) → cond (has_names names && not false) (Err (NotDir (path ++ name ∷ []))) (walk s.entries n (path ++ name ∷ []) names) ≡ cond (has_names names && not false) (Err (NotDir (path ++ name ∷ []))) (steps s follow jump n names)
        leaf [] = refl
        leaf (more ∷ names) = refl

        at : (b : Bool) → is_directory_at s.entries n ≡ b → leads next given (next_path_behind s follow (path ++ name ∷ []) names) (path ++ name ∷ names) ≡ stop (is_directory_at s.entries n)
        at true directory =
            ap (λ (p : List (List ℕ)). leads next given (next_path_behind s follow p names) (path ++ name ∷ names)) (sym here)
            ∙ ap (λ (p : List (List ℕ)). leads next given (next_path_behind s follow (path_of s n) names) p) (sym (append_assoc path (name ∷ []) names) ∙ ap (λ (p : List (List ℕ)). p ++ names) (sym here))
            ∙ on directory
            ∙ sym (ap stop directory ∙ ap (λ (b : Bool). cond b (Err (NotDir (path ++ name ∷ []))) (steps s follow jump n names)) (and-false (has_names names)))
        at false other =
            let stands : stands_at s.entries 0 (path ++ name ∷ []) ≡ Some n = ap (stands_at s.entries 0) (sym here) ∙ stands-path s n h (child-lives s.entries dir name n found) in
            ap (λ (o : Option (List (List ℕ))). leads next given o (path ++ name ∷ names))
            (unmet-behind (path ++ name ∷ []) names (λ more. stands-last s.entries 0 (path ++ name ∷ []) more ∙ ap (λ (o : Option ℕ). option_and_then (λ number. child s.entries number more) o) stands ∙ no-child n more other))
            ∙ walked-on dir (name ∷ names) is
            ∙ ap (λ (o : Option ℕ). option_map_or (walk_on s.entries path name names) o (cond (has_names names) (Err (NoPath (path ++ name ∷ []))) (Ok (Free dir name)))) found
            ∙ ap (λ (b : Bool). cond (has_names names && not b) (Err (NotDir (path ++ name ∷ []))) (walk s.entries n (path ++ name ∷ []) names)) other
            ∙ leaf names
            ∙ sym (ap stop other)

    -- a name that it has
    name-goes : (dir n : ℕ) (name : List ℕ) (names : List (List ℕ)) → child s.entries dir name ≡ Some n → Goes n names → Goes dir (name ∷ names)
    name-goes dir n name names found on is =
        let path : List (List ℕ) = path_of s dir in
        let met : link_to_follow s follow (path ++ name ∷ []) names ≡ word_met s follow n names =
        ap (λ (p : List (List ℕ)). link_to_follow s follow p names) (sym (child-path s dir n name h found)) ∙ met-at n names (child-lives s.entries dir name n found) in
        ap (λ (o : Option PathWord). leads next given (option_map_or (λ word. Some (join path word ++ names)) o (next_path_behind s follow (path ++ name ∷ []) names)) (path ++ name ∷ names)) met
        ∙ at (word_met s follow n names)
        ∙ sym (ap (λ (o : Option ℕ). option_map_or (step_to s follow jump dir name names (λ number. steps s follow jump number names)) o (cond (has_names names) (Err (NoPath (path ++ name ∷ []))) (Ok (Free dir name)))) found)
      where
        at : (o : Option PathWord) → leads next given (option_map_or (λ word. Some (join (path_of s dir) word ++ names)) o (next_path_behind s follow (path_of s dir ++ name ∷ []) names)) (path_of s dir ++ name ∷ names)
            ≡ option_map_or (λ word. jump dir word names) o (cond (has_names names && not (is_directory_at s.entries n)) (Err (NotDir (path_of s dir ++ name ∷ []))) (steps s follow jump n names))
        at (Some word) = jumps dir word names is
        at None = entry-goes dir n name names found is on

    names-go : (dir : ℕ) (names : List (List ℕ)) → Goes dir names
    names-go dir [] is = walked-on dir [] is
    names-go dir (name ∷ names) is = at (child s.entries dir name) refl (λ n. names-go n names)
      where
        at : (o : Option ℕ) → child s.entries dir name ≡ o → ((n : ℕ) → Goes n names) → leads next given (next_path_behind s follow (path_of s dir) (name ∷ names)) (path_of s dir ++ name ∷ names) ≡ steps s follow jump dir (name ∷ names)
        at None found on = missing-goes dir name names found is
        at (Some n) found on = name-goes dir n name names found (on n) is

  -- a path is followed by as many links as may be
  traced : (given : List (List ℕ)) (n dir : ℕ) (names : List (List ℕ)) → is_directory_at s.entries dir ≡ true
      → option_map_or (λ found. destination s found) (final_path n s follow (path_of s dir ++ names)) (Err (Loop given)) ≡ trace s follow given n dir names
  unfolding next_path
  traced given zero dir names is =
      ap (λ (o : Option (List (List ℕ))). leads (λ next. None) given o (path_of s dir ++ names)) (next_path-directory s follow dir names h is)
      ∙ names-go (λ next. None) given (λ link word rest. Err (Loop given)) (λ link word rest there. refl) dir names is
  traced given (suc n) dir names is =
      ap (λ (o : Option (List (List ℕ))). leads (λ next. final_path n s follow next) given o (path_of s dir ++ names)) (next_path-directory s follow dir names h is)
      ∙ names-go (λ next. final_path n s follow next) given (λ link word rest. trace s follow given n (begin s link word) (word.names ++ rest)) (λ link word rest there.
      ap (λ (p : List (List ℕ)). option_map_or (λ found. destination s found) (final_path n s follow p) (Err (Loop given))) (join-begins s link word rest h there)
      ∙ traced given n (begin s link word) (word.names ++ rest) (begin-leads s link word h there).directory) dir names is

-- a look-up walks from where its word begins
pub look-traced : (s : State) (follow : Bool) (base : ℕ) (word : PathWord) → IsLayout s → is_directory_at s.entries base ≡ true
    → look s follow (join (path_of s base) word) ≡ trace s follow (join (path_of s base) word) FOLLOW_LIMIT (begin s base word) word.names
unfolding look
look-traced s follow base word h is =
    let start = begin-leads s base word h is in
    ap (λ (p : List (List ℕ)). option_map_or (λ found. destination s found) (final_path FOLLOW_LIMIT s follow (p ++ word.names)) (Err (Loop (join (path_of s base) word)))) (sym start.path_is)
    ∙ traced s follow h (join (path_of s base) word) FOLLOW_LIMIT (begin s base word) word.names start.directory
