use Rattle.std.specs.Prelude.{◌≡◌, ◌≤◌, ◌++◌, ℕ, Bool, drop}
use Rattle.hac_model.specs.Tree.Links.{has}
use Rattle.hac_model.specs.Tree.Valid.{RiseFrom}
use Rattle.query_index.specs.Numbers.{AreThose}
use Rattle.reindex.specs.Ways.{begins_there, begun_at, needed}
use Rattle.reindex.proofs.ways.stops_needed.Given as goal

-- the places that are left, and the stops so far
abbrev pub invariant-loop-place : goal.invariant-loop-place
invariant-loop-place l =
    RiseFrom l.place l.left
    × ((n : ℕ) → l.place ≤ n → has l.left n ≡ has l.places n)
    × ((begins : ℕ → Bool) → AreThose (begins_there begins l.stops) l.places → needed (begun_at begins l.stops) ≡ l.begun.items ++ needed (begun_at begins (drop l.place l.stops)))
