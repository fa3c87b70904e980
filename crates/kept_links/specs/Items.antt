-- The items that are judged again after an event.
use Rattle.std.specs.Prelude.{ℕ, ◌-◌, Bool, false, ◌&&◌, not, if◌then◌else◌, List, ◌++◌, filter}
use Rattle.std.specs.List.{range_with_len}
use Rattle.std.specs.Option.{option_map_or}
use Rattle.hac_model.specs.Tree.{is_directory_at}
use Rattle.hac_model.specs.Tree.Events.{apply, next_dirty}
use Rattle.hac_model.specs.Tree.Links.{is_item, is_judged}
use Rattle.hac_model.specs.Tree.Touched.{touches}
use Rattle.hac_model.specs.declared.events.Event.{Event}
use Rattle.hac_model.specs.declared.events.Event.TheVariants.{NewFile, Smkdir, Mark, Mv, Rm, Smount, Ssync, Sumount, Step}
use Rattle.hac_model.specs.declared.states.State.{State}
use Rattle.file_tree.specs.Answers.{numbers_of}
use Rattle.kept_links.specs.declared.items.Reach.{Reach}
use Rattle.kept_links.specs.declared.items.Reach.TheVariants.{Nothing, One, Any}

-- the event makes a directory, and the item is one that no query judges: the directory says nothing of it
abbrev pub is_passed_over : State → Event → ℕ → Bool
is_passed_over s (Smkdir dir name query told) item = not (is_judged (apply s (Smkdir dir name query told)) item)
is_passed_over s other item = false

-- it is an item after the event, which doesn't touch it and doesn't pass it over
abbrev pub is_other : State → Event → ℕ → Bool
is_other s event item = is_item (apply s event) item && not (touches s event item) && not (is_passed_over s event item)

-- the items that the event doesn't touch and of which it may change links, in order of number
abbrev pub others : State → Event → List ℕ
others s event = filter (is_other s event) (range_with_len 0 (apply s event).next)

-- the numbers of the entries of a state, and those that were given since, in order
abbrev pub numbers_around : State → State → List ℕ
numbers_around s after = numbers_of s.entries ++ range_with_len s.next (after.next - s.next)

-- what the event may touch: no item, none but one, or any
abbrev pub reach_of : State → Event → Reach
reach_of s (NewFile dir name text) = One s.next
reach_of s (Rm entry) = One entry
reach_of s (Mv entry dir name) = if is_directory_at s.entries entry then Any else One entry
reach_of s (Mark mark) = One mark.item
reach_of s Step = option_map_or (λ file. One file) (next_dirty s.entries) Nothing
reach_of s (Smount dir name space documents told) = Any
reach_of s (Ssync mount documents told) = Any
reach_of s (Sumount mount) = Any
reach_of s other = Nothing
