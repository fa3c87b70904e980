-- Queries as they are printed, given the paths of their directories.
use Rattle.std.specs.Prelude.{ℕ, Bool, true, ◌==◌, if◌then◌else◌, List, [], ◌∷◌, Option, Some, None, is_some}
use Rattle.std.specs.Option.{option_map_or}
use Rattle.hac_model.specs.Query.Formula.{Formula}
use Rattle.hac_model.specs.Tree.Paths.{path_text}
use Rattle.hac_model.specs.Query.Queries.{all_leaves}
use Rattle.hac_model.specs.Query.QueryText.{query_text, referred_by}
use Rattle.query_text.specs.declared.paths.NamedDir.{NamedDir}

-- the path that a directory was given, the first of them
abbrev pub path_at : List NamedDir → ℕ → Option (List (List ℕ))
path_at [] dir = None
path_at (named ∷ paths) dir = if named.dir == dir then Some named.path else path_at paths dir

-- each directory of the query has a path
abbrev pub are_known : List NamedDir → Formula ℕ → Bool
are_known paths query = all_leaves (λ asked. true) (λ dir. is_some (path_at paths dir)) query

-- the path of a directory as it is printed
abbrev pub dir_path : List NamedDir → ℕ → List ℕ
dir_path paths dir = option_map_or path_text (path_at paths dir) []

-- the query with the paths of its directories
abbrev pub pathed : List NamedDir → Formula ℕ → Formula (List ℕ)
pathed paths asked = referred_by (dir_path paths) asked

-- the query as it is printed
abbrev pub printed_query : List NamedDir → Formula ℕ → List ℕ
printed_query paths asked = query_text (pathed paths asked)
