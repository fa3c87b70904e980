-- The ways on which items are judged again after an event.
use Rattle.std.specs.Prelude.{◌≡◌, ◌≢◌, ℕ, Bool, true, false, ◌==◌, ◌&&◌, ◌||◌, List, [], ◌∷◌, filter, length, map, not, if◌then◌else◌, slice_get}
use Rattle.std.specs.List.{list_any}
use Rattle.std.specs.Option.{option_map_or}
use Rattle.dep_graph.specs.Searches.{IsOrdered}
use Rattle.hac_model.specs.Tree.Depends.{Among, depends}
use Rattle.hac_model.specs.Tree.Links.{has, is_semantic, lenders, query_at}
use Rattle.hac_model.specs.declared.states.State.{State}
use Rattle.query_index.specs.Seen.{IsIndexOf}
use Rattle.reeval.specs.declared.settling.Stop.{Stop}
use Rattle.reindex.specs.declared.ways.Way.{Way}

-- a stop at each directory: whether judging begins there by its query, and whether it may go on there
abbrev pub stops_at : (ℕ → Bool) → (ℕ → Bool) → List ℕ → List Stop
stops_at begins leans dirs = map (λ dir. record { dir = dir; begins = begins dir; ties = false; leans = leans dir }) dirs

-- the directory depends on a semantic one
abbrev pub leans : State → ℕ → Bool
leans s dir = list_any (is_semantic s) (depends s dir)

-- the stops where judging begins at each
abbrev pub stops_everywhere : State → List ℕ → List Stop
stops_everywhere s dirs = stops_at (λ dir. true) (leans s) dirs

-- where it begins at one, at which only what is lent to it may be new if it ties, and may go on at each
abbrev pub stops_from : ℕ → Bool → List ℕ → List Stop
stops_from first ties dirs = map (λ dir. record { dir = dir; begins = dir == first; ties = ties && dir == first; leans = true }) dirs

-- the same stop, where judging begins if its directory is one of these
abbrev pub begun : (ℕ → Bool) → Stop → Stop
begun begins stop = record stop { begins = begins stop.dir }

-- the same stops, where judging begins at these directories
abbrev pub begun_at : (ℕ → Bool) → List Stop → List Stop
begun_at begins stops = map (begun begins) stops

-- judging begins at the stop of the place
abbrev pub begins_there : (ℕ → Bool) → List Stop → ℕ → Bool
begins_there begins stops place = option_map_or (λ stop. begins stop.dir) (slice_get stops place) false

-- the stops at which an item may be judged: judging begins there, or may go on there
abbrev pub needed : List Stop → List Stop
needed stops = filter (λ stop. stop.begins || stop.leans) stops

-- the stop of a place, if there is one, where judging begins
abbrev pub begun_there : List Stop → ℕ → List Stop
begun_there stops place = option_map_or (λ stop. record stop { begins = true } ∷ []) (slice_get stops place) []

-- one of the stops leans on others
abbrev pub any_leans : List Stop → Bool
any_leans stops = list_any (λ stop. stop.leans) stops

-- the numbers, with one in front if it isn't among them
abbrev pub with_first : ℕ → List ℕ → List ℕ
with_first first dirs = if has dirs first then dirs else first ∷ dirs

-- the way stops at these directories. It has their queries, and says whether directories were added to some, and whether one
-- may depend on another
pub record IsWayOver (s : State) (order : List ℕ) (way : Way) : Type 0 where
  pub stops : way.stops.items ≡ stops_everywhere s order
  pub index : IsIndexOf (map (query_at s) order) way.index
  pub lends : way.lends ≡ list_any (λ dir. not (length (lenders s dir) == 0)) order
  pub leaning : way.leans ≡ any_leans way.stops.items

-- the way stops at all semantic directories, each behind those on which it depends
pub record IsWayOf (s : State) (way : Way) : Type 0 where
  pub order : List ℕ
  pub ordered : IsOrdered (depends s) order
  pub all : (dir : ℕ) → depends s dir ≢ [] → Among order dir
  pub only : (dir : ℕ) → Among order dir → depends s dir ≢ []
  pub over : IsWayOver s order way
