-- The paths of directories, given one after the other.
use Rattle.std.specs.Prelude.{◌≡◌, ℕ, List, ◌++◌, map}
use Rattle.hac_model.specs.Tree.Depends.{named_in}
use Rattle.hac_model.specs.Query.Formula.{Formula}
use Rattle.hac_model.specs.Tree.{path_of}
use Rattle.hac_model.specs.declared.states.State.{State}
use Rattle.query_text.specs.declared.paths.NamedDir.{NamedDir}

-- a directory with its path
abbrev pub named_dir : State → ℕ → NamedDir
named_dir s dir = record { dir = dir; path = path_of s dir }

-- the paths of the directories that a query names were added
abbrev pub AddsPaths : State → Formula ℕ → List NamedDir → List NamedDir → Type 0
AddsPaths s query old new = new ≡ old ++ map (named_dir s) (named_in query)
