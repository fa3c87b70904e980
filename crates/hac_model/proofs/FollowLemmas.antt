-- Where look-ups lead, which follow symbolic links.
use Rattle.std.proofs.Common.{◌≡◌, ℕ, zero, suc, Bool, true, false, List, [], ◌∷◌, ◌++◌, subst, refl, ap, sym, ◌∙◌, inl, inr, append_assoc}
use Rattle.std.specs.Prelude.{◌==◌, ◌||◌, map, not, Option, Some, None, Result, Ok, Err, option_and_then, if◌then◌else◌}
use Rattle.std.specs.Option.{option_map, option_map_or}
use Rattle.std.specs.Result.{result_ok}
use Rattle.std.proofs.lemmas.Bool.{and_from, and_parts, eqb-true}
use Rattle.std.proofs.lemmas.List.Folds.{list_all-append}
use Rattle.hac_model.specs.Run.Answers.{first_cause}
use Rattle.hac_model.specs.Run.Resolving.{place}
use Rattle.hac_model.specs.Script.PathWords.{has_long_part, is_bad, is_path_word, is_target, untested_word, word_of}
use Rattle.hac_model.specs.Tree.Events.{is_vacant}
use Rattle.hac_model.specs.Tree.Looks.{final_path, link_at, link_to_follow, look, destination, next_path, next_path_behind, stands_at, stop_at, target_word, vacancy, ways}
use Rattle.hac_model.specs.Tree.Names.{is_name}
use Rattle.hac_model.specs.Tree.Paths.{are_names, join}
use Rattle.hac_model.specs.Tree.{body_at, entry_at, is_directory, is_directory_at, is_symlink, is_symlink_at, path_of, target_in}
use Rattle.hac_model.specs.Tree.Valid.{IsLayout, IsSound}
use Rattle.hac_model.specs.declared.limits.LimitWord.TheVariants as limit
use Rattle.hac_model.specs.declared.limits.TheConstants.{FOLLOW_LIMIT}
use Rattle.hac_model.specs.declared.paths.PathWord.{PathWord}
use Rattle.hac_model.specs.declared.places.Place.{Place}
use Rattle.hac_model.specs.declared.places.Place.TheVariants.{There, Free}
use Rattle.hac_model.specs.declared.replies.Refusal.{Refusal}
use Rattle.hac_model.specs.declared.replies.Refusal.TheVariants.{BadName, Limit, Loop}
use Rattle.hac_model.specs.declared.states.Body.{Body}
use Rattle.hac_model.specs.declared.states.Body.TheVariants.{Symlink}
use Rattle.hac_model.specs.declared.states.Entry.{Entry}
use Rattle.hac_model.specs.declared.states.State.{State}
use Rattle.hac_model.proofs.LookLemmas.{vacant-is, join-named, path-named, destination-free, destination-lives}
use Rattle.hac_model.proofs.PathLemmas.{from_root, parent-directory, path_of-parent, path_of-root, destination-path, root-none}
use Rattle.hac_model.proofs.PlainLemmas.{stands-path}
use Rattle.hac_model.proofs.TreeLemmas.{Lives, directory-lives, entry_at-all}
use Rattle.hac_model.proofs.WordLemmas.{word_of-names}

-- What a target says.

-- the names of its word are names
target-names : (target : List ℕ) (word : PathWord) → target_word target ≡ Some word → are_names word.names ≡ true
target-names target word is = at (word_of target) refl is
  where
    at : (r : Result PathWord Refusal) → word_of target ≡ r → result_ok r ≡ Some word → are_names word.names ≡ true
    at (Ok other) given same = let even : other ≡ word = cc in word_of-names target word (given ∙ ap (λ (w : PathWord). Ok w) even)
    at (Err refusal) given same = absurd cc

-- what may be a target is a word
pub target-is_word : (target : List ℕ) → is_target target ≡ true → target_word target ≡ Some (untested_word target)
unfolding word_of
target-is_word target fits =
    let word = (and_parts _ (is_path_word target) fits).1 in
    let parts = and_parts (not (is_bad target)) (not (has_long_part target)) word in
    told (is_bad target) (has_long_part target) parts.0 parts.1
  where
    told : (bad long : Bool) → not bad ≡ true → not long ≡ true
        → result_ok (if bad then Err BadName else (if long then Err (Limit limit.Name) else Ok (untested_word target))) ≡ Some (untested_word target)
    told true long p q = absurd cc
    told false true p q = absurd cc
    told false false p q = refl

-- the names of a link's word
link-names : (s : State) (path : List (List ℕ)) (word : PathWord) → link_at s path ≡ Some word → are_names word.names ≡ true
link-names s path word is = at (option_and_then target_in (option_and_then (body_at s.entries) (stands_at s.entries 0 path))) is
  where
    at : (o : Option (List ℕ)) → option_and_then target_word o ≡ Some word → are_names word.names ≡ true
    at None same = absurd cc
    at (Some target) same = target-names target word same

-- Paths without links to be followed.

-- the first link is replaced by names
next_path-names : (s : State) (follow : Bool) (walked names next : List (List ℕ)) → are_names walked ≡ true → are_names names ≡ true
    → next_path_behind s follow walked names ≡ Some next → are_names next ≡ true
next_path-names s follow walked [] next h k is = absurd cc
next_path-names s follow walked (name ∷ names) next h k is =
    let parts = and_parts (is_name name) (are_names names) k in
    let on : are_names (walked ++ name ∷ []) ≡ true = list_all-append is_name walked (name ∷ []) ∙ and_from (are_names walked) _ h (and_from (is_name name) true parts.0 refl) in
    met (link_to_follow s follow (walked ++ name ∷ []) names) (λ word same. names-of follow names word same) parts.1 (λ more. next_path-names s follow (walked ++ name ∷ []) names next on parts.1 more) is
  where
    names-of : (follow : Bool) (names : List (List ℕ)) (word : PathWord) → link_to_follow s follow (walked ++ name ∷ []) names ≡ Some word → are_names word.names ≡ true
    names-of true names word same = link-names s (walked ++ name ∷ []) word same
    names-of false [] word same = absurd cc
    names-of false (other ∷ names) word same = link-names s (walked ++ name ∷ []) word same

    met : (o : Option PathWord) → ((word : PathWord) → o ≡ Some word → are_names word.names ≡ true) → are_names names ≡ true
        → (next_path_behind s follow (walked ++ name ∷ []) names ≡ Some next → are_names next ≡ true)
        → option_map_or (λ word. Some (join walked word ++ names)) o (next_path_behind s follow (walked ++ name ∷ []) names) ≡ Some next → are_names next ≡ true
    met None word behind more same = more same
    met (Some word) named behind more same =
        let even : join walked word ++ names ≡ next = cc in
        ap are_names (sym even) ∙ list_all-append is_name (join walked word) names
        ∙ and_from (are_names (join walked word)) (are_names names) (join-named walked word h (named word refl)) behind

-- in what is followed nothing is left to be replaced, and it consists of names where the path does
record IsFollowed (s : State) (follow : Bool) (path found : List (List ℕ)) : Type 0 where
  pub ends : next_path s follow found ≡ None
  pub names : are_names path ≡ true → are_names found ≡ true

final_path-end : (s : State) (follow : Bool) (path found : List (List ℕ)) → next_path s follow path ≡ None → Some path ≡ Some found → IsFollowed s follow path found
final_path-end s follow path found none same =
    let even : path ≡ found = cc in
    subst (IsFollowed s follow path) even (record { ends = none; names = λ named. named })

final_path-on : (s : State) (follow : Bool) (path next found : List (List ℕ)) → next_path s follow path ≡ Some next → IsFollowed s follow next found → IsFollowed s follow path found
unfolding next_path
final_path-on s follow path next found some rest = record { ends = rest.ends; names = λ named. rest.names (next_path-names s follow [] path next refl named some) }

final_path-is : (n : ℕ) (s : State) (follow : Bool) (path found : List (List ℕ)) → final_path n s follow path ≡ Some found → IsFollowed s follow path found
final_path-is zero s follow path found is =
    elim (next_path s follow path) as (λ o. next_path s follow path ≡ o → option_map_or (λ next. None) o (Some path) ≡ Some found → IsFollowed s follow path found) [
      | None ↦ (λ none same. final_path-end s follow path found none same)
      | Some next ↦ (λ some same. absurd cc)
    ] refl is
final_path-is (suc n) s follow path found is =
    elim (next_path s follow path) as (λ o. next_path s follow path ≡ o → option_map_or (λ next. final_path n s follow next) o (Some path) ≡ Some found → IsFollowed s follow path found) [
      | None ↦ (λ none same. final_path-end s follow path found none same)
      | Some next ↦ (λ some same. final_path-on s follow path next found some (final_path-is n s follow next found same))
    ] refl is

-- a look-up that stops at no loop leads where a path without links leads
record Leads (s : State) (follow : Bool) (path : List (List ℕ)) (place : Place) : Type 0 where
  pub found : List (List ℕ)
  pub followed_is : IsFollowed s follow path found
  pub leads : destination s found ≡ Ok place

look-leads : (s : State) (follow : Bool) (path : List (List ℕ)) (p : Place) → look s follow path ≡ Ok p → Leads s follow path p
unfolding look
look-leads s follow path p is = at (final_path FOLLOW_LIMIT s follow path) refl is
  where
    at : (o : Option (List (List ℕ))) → final_path FOLLOW_LIMIT s follow path ≡ o → option_map_or (λ found. destination s found) o (Err (Loop path)) ≡ Ok p → Leads s follow path p
    at None none is = absurd cc
    at (Some found) some is = record { found = found; followed_is = final_path-is FOLLOW_LIMIT s follow path found some; leads = is }

-- what a path leads to without links stands there
destination-stands : (s : State) (path : List (List ℕ)) (n : ℕ) → destination s path ≡ Ok (There n) → stands_at s.entries 0 path ≡ Some n
unfolding destination
destination-stands s path n is = at (first_cause (map (stop_at s) (ways path))) (stands_at s.entries 0 path) is
  where
    at : (stop : Option Refusal) (there : Option ℕ) → option_map_or Err stop (Ok (option_map_or There there (vacancy s path))) ≡ Ok (There n) → there ≡ Some n
    at (Some refusal) there is = absurd cc
    at None None is = absurd cc
    at None (Some m) is = let same : m ≡ n = cc in ap (λ (k : ℕ). Some k) same

-- where the last name is followed too, the whole path is no link
end-no_link : (s : State) (walked : List (List ℕ)) (name : List ℕ) (names : List (List ℕ)) → next_path_behind s true walked (name ∷ names) ≡ None → link_at s (walked ++ name ∷ names) ≡ None
end-no_link s walked name [] is = elim (link_at s (walked ++ name ∷ [])) as (λ o. option_map_or (λ word. Some (join walked word ++ [])) o None ≡ None → o ≡ None) [
  | None ↦ (λ same. refl)
  | Some word ↦ (λ same. absurd cc)
] is
end-no_link s walked name (other ∷ names) is =
    elim (link_at s (walked ++ name ∷ [])) as (λ o. option_map_or (λ word. Some (join walked word ++ other ∷ names)) o (next_path_behind s true (walked ++ name ∷ []) (other ∷ names)) ≡ None → link_at s (walked ++ name ∷ other ∷ names) ≡ None) [
      | None ↦ (λ same. ap (link_at s) (sym (append_assoc walked (name ∷ []) (other ∷ names))) ∙ end-no_link s (walked ++ name ∷ []) other names same)
      | Some word ↦ (λ same. absurd cc)
    ] is

-- a sound symbolic link leads by a word
link-leads : (s : State) (path : List (List ℕ)) (n : ℕ) → IsLayout s → stands_at s.entries 0 path ≡ Some n → link_at s path ≡ None → is_symlink_at s.entries n ≡ false
link-leads s path n h stands none = at (entry_at s.entries n) refl (sym (ap (λ (o : Option ℕ). option_and_then target_word (option_and_then target_in (option_and_then (body_at s.entries) o))) stands) ∙ none)
  where
    body : (b : Body) → IsSound b → option_and_then target_word (target_in b) ≡ None → is_symlink b ≡ false
    body (Symlink target) sound none = let never : Some (untested_word target) ≡ None = sym (target-is_word target sound) ∙ none in absurd cc
    body other sound none = refl

    at : (o : Option Entry) → entry_at s.entries n ≡ o → option_and_then target_word (option_and_then target_in (option_map (λ (e : Entry). e.body) o)) ≡ None → option_map_or is_symlink (option_map (λ (e : Entry). e.body) o) false ≡ false
    at None found none = refl
    at (Some e) found none = body e.body (entry_at-all (λ e. IsSound e.body) s.entries n e h.bodies found) none

-- so nothing that was followed to is a link
pub look-follows : (s : State) (path : List (List ℕ)) (n : ℕ) → IsLayout s → look s true path ≡ Ok (There n) → is_symlink_at s.entries n ≡ false
unfolding next_path
look-follows s path n h is =
    let to = look-leads s true path (There n) is in
    at to.found (destination-stands s to.found n to.leads) to.followed_is.ends
  where
    at : (found : List (List ℕ)) → stands_at s.entries 0 found ≡ Some n → next_path s true found ≡ None → is_symlink_at s.entries n ≡ false
    at [] stands ends =
        let root : 0 ≡ n = cc in
        ap (λ (k : ℕ). is_symlink_at s.entries k) (sym root) ∙ ap (λ (o : Option Entry). option_map_or is_symlink (option_map (λ (e : Entry). e.body) o) false) (root-none s h)
    at (name ∷ names) stands ends = link-leads s (name ∷ names) n h stands (end-no_link s [] name names ends)

-- Where path words lead.

-- what a path word leads to lives
pub place-lives : (s : State) (base : ℕ) (follow : Bool) (word : PathWord) (n : ℕ) → place s base follow word ≡ Ok (There n) → Lives s.entries n
place-lives s base follow word n is = let to = look-leads s follow (join (path_of s base) word) (There n) is in destination-lives s to.found n to.leads

-- what it leads to and is missing is a free place
pub place-free : (s : State) (base : ℕ) (follow : Bool) (word : PathWord) (dir : ℕ) (name : List ℕ) → IsLayout s → Lives s.entries base → are_names word.names ≡ true → place s base follow word ≡ Ok (Free dir name) → is_vacant s dir name ≡ true
place-free s base follow word dir name h lives named is =
    let to = look-leads s follow (join (path_of s base) word) (Free dir name) is in
    let joined = join-named (path_of s base) word (path-named s base h lives) named in
    vacant-is s dir name (destination-free s to.found dir name h (to.followed_is.names joined) to.leads)

-- The path of an entry leads to it.

-- a directory is no link
directory-no_link : (s : State) (n : ℕ) → IsLayout s → is_directory_at s.entries n ≡ true → option_and_then target_in (body_at s.entries n) ≡ None
directory-no_link s n h there = at (entry_at s.entries n) refl there
  where
    body : (b : Body) → is_directory b ≡ true → target_in b ≡ None
    body (Symlink target) is = absurd cc
    body other is = refl

    made : (root : Bool) (e : Entry) → (n == 0) ≡ root → entry_at s.entries n ≡ Some e → (root || is_directory e.body) ≡ true → target_in e.body ≡ None
    made true e root found is =
        let none : entry_at s.entries n ≡ None = ap (entry_at s.entries) (eqb-true n 0 root) ∙ root-none s h in
        let never : None ≡ Some e = sym none ∙ found in absurd cc
    made false e root found is = body e.body is

    at : (o : Option Entry) → entry_at s.entries n ≡ o → (n == 0 || option_map_or is_directory (option_map (λ (e : Entry). e.body) o) false) ≡ true → option_and_then target_in (option_map (λ (e : Entry). e.body) o) ≡ None
    at None found is = refl
    at (Some e) found is = made (n == 0) e refl found is

-- on the way to a directory no link is met
pub next_path-directory : (s : State) (follow : Bool) (dir : ℕ) (rest : List (List ℕ)) → IsLayout s → is_directory_at s.entries dir ≡ true
    → next_path_behind s follow [] (path_of s dir ++ rest) ≡ next_path_behind s follow (path_of s dir) rest
next_path-directory s follow dir rest h there = from_root s Goes h root step dir (directory-lives s.entries dir there) there rest
  where
    Goes : ℕ → Type 0
    Goes n = is_directory_at s.entries n ≡ true → (rest : List (List ℕ)) → next_path_behind s follow [] (path_of s n ++ rest) ≡ next_path_behind s follow (path_of s n) rest

    root : Goes 0
    root there rest = ap (λ (p : List (List ℕ)). next_path_behind s follow [] (p ++ rest)) (path_of-root s h) ∙ ap (λ (p : List (List ℕ)). next_path_behind s follow p rest) (sym (path_of-root s h))

    no_link : (n : ℕ) → is_directory_at s.entries n ≡ true → link_at s (path_of s n) ≡ None
    no_link n there =
        ap (λ (o : Option ℕ). option_and_then target_word (option_and_then target_in (option_and_then (body_at s.entries) o))) (stands-path s n h (directory-lives s.entries n there))
        ∙ ap (option_and_then target_word) (directory-no_link s n h there)

    unmet : (n : ℕ) (follow : Bool) (rest : List (List ℕ)) → is_directory_at s.entries n ≡ true → link_to_follow s follow (path_of s n) rest ≡ None
    unmet n true rest there = no_link n there
    unmet n false [] there = refl
    unmet n false (name ∷ rest) there = no_link n there

    step : (n : ℕ) (e : Entry) → entry_at s.entries n ≡ Some e → Goes e.parent → Goes n
    step n e found known there rest =
        let path : path_of s n ≡ path_of s e.parent ++ e.name ∷ [] = path_of-parent s n e h found in
        ap (λ (p : List (List ℕ)). next_path_behind s follow [] (p ++ rest)) path
        ∙ ap (next_path_behind s follow []) (append_assoc (path_of s e.parent) (e.name ∷ []) rest)
        ∙ known (parent-directory s n e h found) (e.name ∷ rest)
        ∙ ap (λ (p : List (List ℕ)). option_map_or (λ word. Some (join (path_of s e.parent) word ++ rest)) (link_to_follow s follow p rest) (next_path_behind s follow p rest)) (sym path)
        ∙ ap (λ (o : Option PathWord). option_map_or (λ word. Some (join (path_of s e.parent) word ++ rest)) o (next_path_behind s follow (path_of s n) rest)) (unmet n follow rest there)

-- nothing is replaced in the path of an entry whose last name isn't followed
path-settled : (s : State) (n : ℕ) → IsLayout s → Lives s.entries n → next_path s false (path_of s n) ≡ None
unfolding next_path
path-settled s n h (inl root) = ap (λ (k : ℕ). next_path_behind s false [] (path_of s k)) root ∙ ap (next_path_behind s false []) (path_of-root s h)
path-settled s n h (inr (e, found)) =
    ap (next_path_behind s false []) (path_of-parent s n e h found)
    ∙ next_path-directory s false e.parent (e.name ∷ []) h (parent-directory s n e h found)

pub look-path : (s : State) (n : ℕ) → IsLayout s → Lives s.entries n → look s false (path_of s n) ≡ Ok (There n)
unfolding look
look-path s n h lives =
    ap (λ (o : Option (List (List ℕ))). option_map_or (λ found. destination s found) (option_map_or (λ next. final_path 15 s false next) o (Some (path_of s n))) (Err (Loop (path_of s n)))) (path-settled s n h lives)
    ∙ destination-path s n h lives
