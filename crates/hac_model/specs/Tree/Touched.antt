-- What an event touches: the items whose links it may change anywhere, and the directories at which it may change links of
-- all items.
use Rattle.std.specs.Prelude.{ℕ, Bool, false, ◌==◌, ◌&&◌, ◌||◌, List, filter, if◌then◌else◌, Option, Some, None}
use Rattle.std.specs.List.{range_with_len}
use Rattle.std.specs.Option.{option_map_or}
use Rattle.hac_model.specs.Tree.Events.{apply, is_inside, next_dirty}
use Rattle.hac_model.specs.Tree.Links.{is_item, is_semantic}
use Rattle.hac_model.specs.Tree.Mounting.{is_document_of}
use Rattle.hac_model.specs.declared.events.Event.{Event}
use Rattle.hac_model.specs.declared.events.Event.TheVariants.{NewFile, Smkdir, Setq, Unq, Mark, Mv, Rm, Rmdir, Smount, Ssync, Sumount, Step}
use Rattle.hac_model.specs.declared.states.State.{State}

-- the event touches the item: it makes it, moves it, marks it, indexes it or removes it
abbrev pub touches : State → Event → ℕ → Bool
touches s (NewFile dir name text) item = item == s.next
touches s (Rm entry) item = item == entry && is_item s item
touches s (Mv entry dir name) item = is_item s item && is_inside s item entry
touches s (Mark mark) item = item == mark.item && is_item s item
touches s Step item = option_map_or (λ file. item == file) (next_dirty s.entries) false
touches s (Smount dir name space documents told) item = is_document_of (apply s (Smount dir name space documents told)) s.next item
touches s (Ssync mount documents told) item =
    is_document_of s mount item || is_document_of (apply s (Ssync mount documents told)) mount item
touches s (Sumount mount) item = is_document_of s mount item
touches s other item = false

-- the items that the event touches, in order of number
abbrev pub touched : State → Event → List ℕ
touched s event = filter (touches s event) (range_with_len 0 (apply s event).next)

-- the semantic directory that the event makes, moves, asks anew or makes plain
abbrev pub changed : State → Event → Option ℕ
changed s (Smkdir dir name query told) = Some s.next
changed s (Setq dir query told) = Some dir
changed s (Unq dir) = Some dir
changed s (Mv entry dir name) = if is_semantic s entry then Some entry else None
changed s other = None

-- the semantic directory to which the event adds a directory, or from which it takes one
abbrev pub tied : State → Event → Option ℕ
tied s (Mark mark) = if is_item s mark.item then None else Some mark.dir
tied s other = None

-- the directory that the event removes
abbrev pub dropped : Event → Option ℕ
dropped (Rmdir dir) = Some dir
dropped other = None

-- the number is this one, if there is one
abbrev pub is_the : Option ℕ → ℕ → Bool
is_the one number = option_map_or (λ other. number == other) one false

-- judging of items that the event doesn't touch begins at the directory: elsewhere it goes on only where another
-- directory provides other items than before
abbrev pub begins : State → Event → ℕ → Bool
begins s event dir = is_the (changed s event) dir || is_the (tied s event) dir || is_the (dropped event) dir
