-- Look-up: where a path leads.
use Rattle.std.specs.Prelude.{ℕ, zero, suc, Bool, true, false, ◌-◌, ◌||◌, if◌then◌else◌, List, [], ◌∷◌, ◌++◌, length, map, Option, None, Some, Result, Ok, Err, option_and_then}
use Rattle.std.specs.List.{slice_index_or}
use Rattle.std.specs.Option.{option_map, option_map_or, unwrap_or}
use Rattle.std.specs.Result.{result_ok}
use Rattle.hac_model.specs.Run.Answers.{first_cause}
use Rattle.hac_model.specs.Script.PathWords.{word_of}
use Rattle.hac_model.specs.Tree.Paths.{join, without_last}
use Rattle.hac_model.specs.Tree.{body_at, child, is_directory_at, target_in}
use Rattle.hac_model.specs.declared.limits.TheConstants.{FOLLOW_LIMIT}
use Rattle.hac_model.specs.declared.paths.PathWord.{PathWord}
use Rattle.hac_model.specs.declared.places.Place.{Place}
use Rattle.hac_model.specs.declared.places.Place.TheVariants.{There, Free}
use Rattle.hac_model.specs.declared.replies.Refusal.{Refusal}
use Rattle.hac_model.specs.declared.replies.Refusal.TheVariants.{Loop, NoPath, NotDir}
use Rattle.hac_model.specs.declared.states.Body.{Body}
use Rattle.hac_model.specs.declared.states.Body.TheVariants.{Dir}
use Rattle.hac_model.specs.declared.states.Entry.{Entry}
use Rattle.hac_model.specs.declared.states.State.{State}

-- the number of the entry at a path that begins at a directory
abbrev pub stands_at : List Entry → ℕ → List (List ℕ) → Option ℕ
stands_at entries dir [] = Some dir
stands_at entries dir (name ∷ names) = option_and_then (λ number. stands_at entries number names) (child entries dir name)

abbrev pub has_names : List (List ℕ) → Bool
has_names [] = false
has_names (name ∷ names) = true

-- what a path goes through before its end: its prefixes, but for the root and itself, the shortest first
abbrev pub ways : List (List ℕ) → List (List (List ℕ))
ways [] = []
ways (name ∷ names) = if has_names names then (name ∷ []) ∷ map (λ way. name ∷ way) (ways names) else []

-- what stops a look-up on its way: nothing is there, or what is there is no directory
abbrev pub stop_at : State → List (List ℕ) → Option Refusal
stop_at s way =
    option_map_or
    (λ number. if is_directory_at s.entries number then None else Some (NotDir way))
    (stands_at s.entries 0 way)
    (Some (NoPath way))

-- the last name of a path, in the directory to which the names before it lead
abbrev pub vacancy : State → List (List ℕ) → Place
vacancy s path = Free (unwrap_or (stands_at s.entries 0 (without_last 1 path)) 0) (slice_index_or path (length path - 1) [])

-- where a path leads on which no symbolic link is followed: the first stop on its way, or the entry there, or the vacancy
unfoldable pub destination : State → List (List ℕ) → Result Place Refusal
destination s path =
    option_map_or Err (first_cause (map (stop_at s) (ways path)))
    (Ok (option_map_or There (stands_at s.entries 0 path) (vacancy s path)))

-- the word that the bytes of a target are
abbrev pub target_word : List ℕ → Option PathWord
target_word target = result_ok (word_of target)

-- the word that a symbolic link leads by, where the path is that of one
abbrev pub link_at : State → List (List ℕ) → Option PathWord
link_at s path = option_and_then target_word (option_and_then target_in (option_and_then (body_at s.entries) (stands_at s.entries 0 path)))

-- the same where the link is to be followed: as the last name of a path only if this is asked for
abbrev pub link_to_follow : State → Bool → List (List ℕ) → List (List ℕ) → Option PathWord
link_to_follow s follow path names = if follow || has_names names then link_at s path else None

-- The path that was walked so far, on which no link was met, and the names left: the shortest prefix that is a link to be
-- followed is replaced by the link's target, joined to the link's directory.
abbrev pub next_path_behind : State → Bool → List (List ℕ) → List (List ℕ) → Option (List (List ℕ))
next_path_behind s follow walked [] = None
next_path_behind s follow walked (name ∷ names) =
    option_map_or (λ word. Some (join walked word ++ names))
    (link_to_follow s follow (walked ++ name ∷ []) names)
    (next_path_behind s follow (walked ++ name ∷ []) names)

-- a path with its first symbolic link replaced, if one is to be followed
unfoldable pub next_path : State → Bool → List (List ℕ) → Option (List (List ℕ))
next_path s follow path = next_path_behind s follow [] path

-- a path once no link is left to be followed; none where more than n would be followed
abbrev pub final_path : ℕ → State → Bool → List (List ℕ) → Option (List (List ℕ))
final_path zero s follow path = option_map_or (λ next. None) (next_path s follow path) (Some path)
final_path (suc n) s follow path = option_map_or (λ next. final_path n s follow next) (next_path s follow path) (Some path)

-- where a path leads: symbolic links on its way are followed, and one at its end if this is asked for
unfoldable pub look : State → Bool → List (List ℕ) → Result Place Refusal
look s follow path = option_map_or (λ found. destination s found) (final_path FOLLOW_LIMIT s follow path) (Err (Loop path))

-- what has the number: an entry's body, and a plain directory for the root
abbrev pub body_of : State → ℕ → Body
body_of s number = unwrap_or (body_at s.entries number) Dir

-- the tree as its user sees it, a map from paths: the number and the body of the entry there
abbrev pub plain : State → List (List ℕ) → Option (ℕ × Body)
plain s path = option_map (λ number. (number, body_of s number)) (stands_at s.entries 0 path)
