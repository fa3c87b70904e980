-- What becomes of the entry of one number by an event, told by the tree before it.
use Rattle.std.specs.Prelude.{ℕ, Bool, false, true, ◌==◌, if◌then◌else◌, List, [], Option, Some, None, IsTrue, is_some, option_and_then}
use Rattle.std.specs.Option.{option_map_or}
use Rattle.hac_model.specs.Query.Formula.{Formula}
use Rattle.hac_model.specs.Tree.Events.{is_made_holder, next_dirty}
use Rattle.hac_model.specs.Tree.Links.{parent_of, query_at, shown_of}
use Rattle.hac_model.specs.Tree.Mounting.{do_names_rise, is_gone, is_of_mount, is_such_at}
use Rattle.hac_model.specs.Tree.{body_at, entry_at, text_in}
use Rattle.hac_model.specs.declared.events.Event.{Event}
use Rattle.hac_model.specs.declared.events.Event.TheVariants.{Mkdir, NewFile, Ln, Smkdir, Setq, Unq, Mv, Rm, Rmdir, Smount, Ssync, Sumount, Step}
use Rattle.hac_model.specs.declared.states.Body.{Body}
use Rattle.hac_model.specs.declared.states.Body.TheVariants.{File, Dir, Symlink, Semantic, Mount, Document}
use Rattle.hac_model.specs.declared.states.State.{State}

-- it goes
abbrev pub goes : Event → State → ℕ → Bool
goes (Rm entry) tree number = number == entry
goes (Rmdir dir) tree number = number == dir
goes (Ssync mount documents told) tree number = is_such_at (is_gone mount documents) tree.entries number
goes (Sumount mount) tree number = is_such_at (is_of_mount mount) tree.entries number
goes other tree number = false

-- it is the file that is indexed
abbrev pub is_indexed : Event → State → ℕ → Bool
is_indexed Step tree number = option_map_or (λ file. file == number) (next_dirty tree.entries) false
is_indexed other tree number = false

-- the directory of a new entry, given the first number that is free before the event
abbrev pub new_parent : Event → ℕ → ℕ → ℕ
new_parent (Mkdir dir name) first number = dir
new_parent (NewFile dir name text) first number = dir
new_parent (Ln dir name target) first number = dir
new_parent (Smkdir dir name query told) first number = dir
new_parent (Smount dir name space documents told) first number = if number == first then dir else first
new_parent (Ssync mount documents told) first number = mount
new_parent other first number = 0

-- what a new entry is, where the event brings one
abbrev pub new_body : Event → ℕ → ℕ → Option Body
new_body (Mkdir dir name) first number = Some Dir
new_body (NewFile dir name text) first number = Some (File text true None)
new_body (Ln dir name target) first number = Some (Symlink target)
new_body (Smkdir dir name query told) first number = Some (Semantic query [] [])
new_body (Smount dir name space documents told) first number = Some (if number == first then Mount space [] else Document)
new_body (Ssync mount documents told) first number = Some Document
new_body other first number = None

-- the directory of an entry that doesn't go
abbrev pub left_parent : Event → State → ℕ → ℕ
left_parent (Mv entry dir name) tree number = if number == entry then dir else parent_of tree number
left_parent other tree number = parent_of tree number

-- and its query
abbrev pub left_query : Event → State → ℕ → Option (Formula ℕ)
left_query (Setq dir query told) tree number = if number == dir then Some query else query_at tree number
left_query (Unq dir) tree number = if number == dir then None else query_at tree number
left_query other tree number = query_at tree number

-- and the text that it shows: the file that is indexed shows its own
abbrev pub left_shown : Event → State → ℕ → Option (List ℕ)
left_shown event tree number =
    if is_indexed event tree number then option_and_then text_in (body_at tree.entries number) else shown_of tree number

-- the event changes what is there, and names of documents rise
abbrev pub SuitsTree : Event → State → Type 0
SuitsTree (Mv entry dir name) tree = IsTrue (is_some (entry_at tree.entries entry))
SuitsTree (Setq dir query told) tree = IsTrue (is_made_holder tree dir)
SuitsTree (Ssync mount documents told) tree = IsTrue (do_names_rise documents)
SuitsTree other tree = Unit {0}
