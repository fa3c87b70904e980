-- The way on which an item is judged: from directory to directory, each behind those on which it depends.
use Rattle.std.specs.Prelude.{◌≡◌, ℕ, Bool, true, false, ◌==◌, ◌&&◌, List, map}
use Rattle.std.specs.List.{AllByRecursion, list_any}
use Rattle.hac_model.specs.Tree.Depends.{Among, depends}
use Rattle.hac_model.specs.Tree.Valid.{IsValid}
use Rattle.hac_model.specs.declared.states.State.{State}
use Rattle.dep_graph.specs.Searches.{IsOrdered}
use Rattle.reeval.specs.Judging.{AreJudged, LeavesAlike, TiesAlike}
use Rattle.reeval.specs.declared.settling.Stop.{Stop}

-- the directories at which it stops
abbrev pub dirs_of : List Stop → List ℕ
dirs_of stops = map (λ stop. stop.dir) stops

-- judging begins at the directory
abbrev pub begins_at : List Stop → ℕ → Bool
begins_at stops dir = list_any (λ stop. stop.dir == dir && stop.begins) stops

-- the directory is one of which only what is lent to it may be new, where judging begins
abbrev pub ties_at : List Stop → ℕ → Bool
ties_at stops dir = list_any (λ stop. stop.dir == dir && stop.ties) stops

-- it stops at each directory behind those on which that one depends, and at all that depend on one at which it stops; what
-- leans on none depends on none of them
pub record IsRoute (edges : ℕ → List ℕ) (stops : List Stop) : Type 0 where
  pub ordered : IsOrdered edges (dirs_of stops)
  pub closed : (dir e : ℕ) → Among (edges dir) e → Among (dirs_of stops) e → Among (dirs_of stops) dir
  pub alone : AllByRecursion (λ stop. stop.leans ≡ false → (e : ℕ) → Among (edges stop.dir) e → ¬ Among (dirs_of stops) e) stops

-- on this way an item is judged wherever another state may say something else of it
pub record Covers (s t : State) (stops : List Stop) (item : ℕ) : Type 0 where
  pub before : AreJudged s item
  pub after : IsValid t
  pub route : IsRoute (depends t) stops
  pub alike : LeavesAlike s t (begins_at stops) item
  pub tied : (dir : ℕ) → ties_at stops dir ≡ true → TiesAlike s t (begins_at stops) item dir
