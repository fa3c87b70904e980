-- Which directories depend on which.
use Rattle.std.specs.Prelude.{◌≡◌, ◌⊎◌, ℕ, zero, suc, ◌==◌, ◌||◌, ◌++◌, Bool, if◌then◌else◌, List, [], ◌∷◌, false, filter, Option, None, Some, option_and_then}
use Rattle.std.specs.List.{list_any}
use Rattle.std.specs.Option.{option_map_or}
use Rattle.hac_model.specs.Query.Formula.{Formula}
use Rattle.hac_model.specs.Tree.Limits.{semantic_count}
use Rattle.hac_model.specs.Tree.Links.{has, lenders, parent_of, query_at}
pub use Rattle.hac_model.specs.Query.Queries.{named_in}
use Rattle.hac_model.specs.Tree.{is_directory_at, permanent_in, query_in}
use Rattle.hac_model.specs.declared.marks.Kind.{Kind}
use Rattle.hac_model.specs.declared.marks.Kind.TheVariants.{Permanent}
use Rattle.hac_model.specs.declared.states.Entry.{Entry}
use Rattle.hac_model.specs.declared.states.State.{State}

-- the directories that a directory depends on: a semantic one on its parent, on those that its query names, and on those
-- that the user added to it
abbrev pub depends : State → ℕ → List ℕ
depends s dir = option_map_or (λ query. parent_of s dir ∷ named_in query ++ lenders s dir) (query_at s dir) []

-- the number is one of these, by cases
abbrev pub Among : List ℕ → ℕ → Type 0
Among [] number = ⊥
Among (first ∷ numbers) number = (first ≡ number) ⊎ Among numbers number

-- this many steps lead from one number to another, given where each leads
abbrev pub Leads : (ℕ → List ℕ) → ℕ → ℕ → ℕ → Type 0
Leads edges zero from to = from ≡ to
Leads edges (suc steps) from to = (next : ℕ) × (Among (edges from) next) × (Leads edges steps next to)

-- some number of steps does, none among them
abbrev pub Reaches : (ℕ → List ℕ) → ℕ → ℕ → Type 0
Reaches edges from to = (steps : ℕ) × Leads edges steps from to

-- no number is reached from itself, over one step or more
abbrev pub NeverReturns : (ℕ → List ℕ) → Type 0
NeverReturns edges = (steps number : ℕ) → ¬ Leads edges (suc steps) number number

-- no directory depends on itself
abbrev pub IsAcyclic : State → Type 0
IsAcyclic s = NeverReturns (depends s)

-- at most this many steps lead from one number to another
abbrev pub leads_within : (ℕ → List ℕ) → ℕ → ℕ → ℕ → Bool
leads_within edges zero from to = from == to
leads_within edges (suc steps) from to = from == to || list_any (λ next. leads_within edges steps next to) (edges from)

-- the one directory is the other, or depends on it over any number of steps: as many as there are semantic directories
-- are enough
unfoldable pub reaches : State → ℕ → ℕ → Bool
reaches s from to = leads_within (depends s) (semantic_count s.entries) from to

-- the first of the directories that is the given one or depends on it
unfoldable pub first_reaching : State → ℕ → List ℕ → Option ℕ
first_reaching s dir [] = None
first_reaching s dir (other ∷ others) = if reaches s other dir then Some other else first_reaching s dir others

-- for a directory with this parent and this query: the first directory through which it would depend on itself
abbrev pub cycle_over : State → ℕ → ℕ → Formula ℕ → Option ℕ
cycle_over s dir parent query = first_reaching s dir (parent ∷ named_in query)

-- the directory through which an entry would depend on itself once it is in another one: none where it isn't semantic
abbrev pub cycle_of_move : State → ℕ → ℕ → Option ℕ
cycle_of_move s entry dir = option_and_then (cycle_over s entry dir) (query_at s entry)

-- the directory to be added to another one that is that one or depends on it: where an item is added, nothing depends on it
abbrev pub cycle_of_mark : State → ℕ → ℕ → Kind → Option ℕ
cycle_of_mark s dir number Permanent = if is_directory_at s.entries number then first_reaching s dir (number ∷ []) else None
cycle_of_mark s dir number other = None

-- the query of an entry names the directory
abbrev pub names_directory : ℕ → Entry → Bool
names_directory dir entry = option_map_or (λ query. has (named_in query) dir) (query_in entry.body) false

-- the entry refers to the directory: its query names it, or the user added it there
abbrev pub refers_to : ℕ → Entry → Bool
refers_to dir entry = names_directory dir entry || has (permanent_in entry.body) dir

-- the entries that refer to the directory
abbrev pub referrers : State → ℕ → List Entry
referrers s dir = filter (refers_to dir) s.entries
