-- How many questions for terms it takes to judge items on a way.
use Rattle.std.specs.Prelude.{ℕ, Bool, ◌+◌, ◌*◌, ◌&&◌, not, if◌then◌else◌, List, filter, length, sum_by}
use Rattle.std.specs.List.{list_any}
use Rattle.hac_model.specs.Tree.Costs.{is_shifted, terms_at}
use Rattle.hac_model.specs.declared.states.State.{State}
use Rattle.reeval.specs.declared.planning.Task.{Task}
use Rattle.reeval.specs.declared.settling.Stop.{Stop}

-- how many terms the queries on the way have
abbrev pub terms_along : State → List Stop → ℕ
terms_along t stops = sum_by (λ stop. terms_at t stop.dir) stops

-- how many the query at a stop has, if judging begins there by it
abbrev pub terms_begun : State → Stop → ℕ
terms_begun t stop = if stop.begins && not stop.ties then terms_at t stop.dir else 0

-- how many the queries have by which judging begins
abbrev pub terms_asked : State → List Stop → ℕ
terms_asked t stops = sum_by (terms_begun t) stops

-- a directory at which judging begins provides the item in just one of two states
abbrev pub is_moved : State → State → List Stop → ℕ → Bool
is_moved s t stops item = list_any (λ stop. stop.begins && is_shifted s t item stop.dir) stops

-- each item is judged where judging begins, and one that moves there anywhere on the way
abbrev pub terms_settled : State → State → List Stop → List ℕ → ℕ
terms_settled s t stops items = length items * terms_asked t stops + length (filter (is_moved s t stops) items) * terms_along t stops

-- the items that a task touches are judged anywhere, and the others along its way
abbrev pub terms_planned : State → State → Task → ℕ
terms_planned s t task =
    length task.touched.items * terms_along t task.everywhere.items + terms_settled s t task.along.items task.others.items
