-- Where words lead, and how paths are printed.
use Rattle.std.specs.Prelude.{ℕ, Bool, ◌-◌, if◌then◌else◌, List, [], ◌∷◌, ◌++◌, length, take, codes}
use Rattle.std.specs.List.{list_all, flat_map}
use Rattle.hac_model.specs.Tree.Names.{is_name}
use Rattle.hac_model.specs.declared.paths.PathWord.{PathWord}

-- each name of a path is one
abbrev pub are_names : List (List ℕ) → Bool
are_names path = list_all is_name path

-- a path without its last n names, without all where it has fewer
abbrev pub without_last : ℕ → List (List ℕ) → List (List ℕ)
without_last n path = take (length path - n) path

-- where a word begins: at the root, or as many names above the base as it first leads up
abbrev pub origin : List (List ℕ) → PathWord → List (List ℕ)
origin base word = if word.absolute then [] else without_last word.ups base

-- where a word leads from a base
abbrev pub join : List (List ℕ) → PathWord → List (List ℕ)
join base word = origin base word ++ word.names

-- a name behind a slash
abbrev pub slashed : List ℕ → List ℕ
slashed name = codes "/" ++ name

-- each name behind a slash; the root, which has no name, is a slash
abbrev pub path_text : List (List ℕ) → List ℕ
path_text [] = codes "/"
path_text (name ∷ names) = flat_map slashed (name ∷ names)
