-- Where names lead from directory to directory, each known by its number.
use Rattle.std.specs.Prelude.{ℕ, zero, suc, Bool, ◌&&◌, ◌||◌, not, if◌then◌else◌, List, [], ◌∷◌, ◌++◌, Option, None, Result, Ok, Err, option_and_then}
use Rattle.std.specs.Option.{option_map_or}
use Rattle.hac_model.specs.Tree.Links.{parent_of}
use Rattle.hac_model.specs.Tree.Looks.{has_names, target_word}
use Rattle.hac_model.specs.Tree.{body_at, child, is_directory_at, path_of, target_in}
use Rattle.hac_model.specs.declared.paths.PathWord.{PathWord}
use Rattle.hac_model.specs.declared.places.Place.{Place}
use Rattle.hac_model.specs.declared.places.Place.TheVariants.{There, Free}
use Rattle.hac_model.specs.declared.replies.Refusal.{Refusal}
use Rattle.hac_model.specs.declared.replies.Refusal.TheVariants.{Loop, NoPath, NotDir}
use Rattle.hac_model.specs.declared.states.State.{State}

-- the directory so many steps above one
abbrev pub up : ℕ → State → ℕ → ℕ
up zero s dir = dir
up (suc steps) s dir = up steps s (parent_of s dir)

-- the directory in which a word begins that leads on from a directory
abbrev pub begin : State → ℕ → PathWord → ℕ
begin s dir word = if word.absolute then 0 else up word.ups s dir

-- the word by which a symbolic link leads
abbrev pub word_at : State → ℕ → Option PathWord
word_at s number = option_and_then target_word (option_and_then target_in (body_at s.entries number))

module _ (s : State) (follow : Bool) where
  -- the same, where the link is to be followed
  abbrev pub word_met : ℕ → List (List ℕ) → Option PathWord
  word_met number names = if follow || has_names names then word_at s number else None

  module _ (jump : ℕ → PathWord → List (List ℕ) → Result Place Refusal) where
    -- where a name leads that a directory has, given where the names behind it lead from there
    abbrev pub step_to : ℕ → List ℕ → List (List ℕ) → (ℕ → Result Place Refusal) → ℕ → Result Place Refusal
    step_to dir name names next number =
        option_map_or (λ word. jump dir word names)
        (word_met number names)
        (if has_names names && not (is_directory_at s.entries number) then Err (NotDir (path_of s dir ++ name ∷ [])) else next number)

    -- where names lead from a directory, given where they lead from the first symbolic link on
    abbrev pub steps : ℕ → List (List ℕ) → Result Place Refusal
    steps dir [] = Ok (There dir)
    steps dir (name ∷ names) =
        option_map_or (step_to dir name names (λ number. steps number names))
        (child s.entries dir name)
        (if has_names names then Err (NoPath (path_of s dir ++ name ∷ [])) else Ok (Free dir name))

  -- where names lead from a directory, if by no more than n symbolic links
  abbrev pub trace : List (List ℕ) → ℕ → ℕ → List (List ℕ) → Result Place Refusal
  trace given zero dir names = steps (λ link word rest. Err (Loop given)) dir names
  trace given (suc n) dir names = steps (λ link word rest. trace given n (begin s link word) (word.names ++ rest)) dir names
