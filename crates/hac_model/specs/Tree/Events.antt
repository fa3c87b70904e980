-- Which events happen, and what they do.
use Rattle.std.specs.Prelude.{ℕ, Bool, true, false, ◌==◌, ◌&&◌, ◌||◌, not, if◌then◌else◌, List, [], ◌∷◌, ◌++◌, length, drop, Option, Some, None, is_some, is_none}
use Rattle.std.specs.List.{list_all}
use Rattle.std.specs.Option.{option_map_or}
pub use Rattle.hac_model.specs.Tree.Changes.{added, asking, changed_at, changed_in, edited, forgetting, forgotten, indexed, marked, marking, plain_body, put_in, removed, reseated, rewritten, without}
use Rattle.hac_model.specs.Tree.Depends.{cycle_of_mark, cycle_of_move, cycle_over, named_in, refers_to}
use Rattle.hac_model.specs.Query.Formula.{Formula}
use Rattle.hac_model.specs.Tree.Limits.{are_answers_few, dirty_count, is_text, passed_limit}
use Rattle.hac_model.specs.Tree.Links.{can_be_added, has, is_item, is_permanent, is_prohibited, is_semantic, parent_of, transient_at}
use Rattle.hac_model.specs.Tree.Names.{is_name}
use Rattle.hac_model.specs.Tree.Sessions.{are_few, is_busy, sessions_with}
use Rattle.hac_model.specs.Script.PathWords.{is_target}
use Rattle.hac_model.specs.Script.SpaceNames.{is_space_name}
use Rattle.hac_model.specs.Query.Queries.{is_query}
use Rattle.hac_model.specs.Tree.Asking.{are_all_told, with_told}
use Rattle.hac_model.specs.Tree.Mounting.{answers_to, are_documents, are_documents_few, are_told, mounted, synced, unmounted}
use Rattle.hac_model.specs.Tree.Mounts.{terms_to_ask}
use Rattle.hac_model.specs.Tree.{child, entry_at, extends, is_directory_at, is_dirty, is_document_at, is_file_at, is_leaf_at, is_made_directory, is_mount_at, path_of}
use Rattle.hac_model.specs.declared.events.Event.{Event}
use Rattle.hac_model.specs.declared.events.Event.TheVariants.{Mkdir, NewFile, Rewrite, Ln, Smkdir, Setq, Unq, Mark, Mv, Rm, Rmdir, Smount, Ssync, Sumount, Step, Cd}
use Rattle.hac_model.specs.declared.marks.Kind.{Kind}
use Rattle.hac_model.specs.declared.marks.Kind.TheVariants.{Transient, Permanent, Prohibited, Unlinked}
use Rattle.hac_model.specs.declared.states.Body.TheVariants.{File, Dir, Symlink, Semantic}
use Rattle.hac_model.specs.declared.states.Entry.{Entry}
use Rattle.hac_model.specs.declared.states.State.{State}

-- the dirty file of the least number: the first one, since numbers rise
abbrev pub next_dirty : List Entry → Option ℕ
next_dirty [] = None
next_dirty (entry ∷ entries) = if is_dirty entry.body then Some entry.number else next_dirty entries

-- how many files are dirty
abbrev pub dirty : State → ℕ
dirty s = dirty_count s.entries

-- a directory has no entry of this name
abbrev pub is_vacant : State → ℕ → List ℕ → Bool
is_vacant s dir name = is_directory_at s.entries dir && is_name name && is_none (child s.entries dir name)

-- an entry of this name can be put into the directory, which isn't a mount
abbrev pub is_free : State → ℕ → List ℕ → Bool
is_free s dir name = is_vacant s dir name && not (is_mount_at s.entries dir)

-- a directory that was made isn't a mount
abbrev pub is_made_holder : State → ℕ → Bool
is_made_holder s dir = is_made_directory s.entries dir && not (is_mount_at s.entries dir)

-- the directory is empty
abbrev pub is_empty_at : List Entry → ℕ → Bool
is_empty_at entries dir = list_all (λ entry. not (entry.parent == dir)) entries

-- the directory is the entry itself, or below it
abbrev pub is_inside : State → ℕ → ℕ → Bool
is_inside s dir entry = dir == entry || extends (path_of s dir) (path_of s entry)

-- all of them are directories
abbrev pub are_directories : State → List ℕ → Bool
are_directories s dirs = list_all (λ dir. is_directory_at s.entries dir) dirs

-- the query may be asked: it holds no more than it may, and names directories
abbrev pub may_ask : State → Formula ℕ → Bool
may_ask s query = is_query query && are_directories s (named_in query)

-- no query names the directory, and it was added to none
abbrev pub is_unreferenced : State → ℕ → Bool
is_unreferenced s dir = list_all (λ entry. not (refers_to dir entry)) s.entries

-- an item can have any mark, a directory only that it was added
abbrev pub can_have_mark : State → ℕ → Kind → Bool
can_have_mark s number Prohibited = is_item s number
can_have_mark s number other = can_be_added s number

-- what isn't permanent yet may become so, a link may become prohibited, and what has a mark may lose it
abbrev pub may_mark : State → ℕ → ℕ → Kind → Bool
may_mark s dir item Permanent = not (is_permanent s dir item)
may_mark s dir item Prohibited = is_permanent s dir item || has (transient_at s dir) item
may_mark s dir item Unlinked = is_permanent s dir item || is_prohibited s dir item
may_mark s dir item Transient = false

-- a space with these documents can be mounted, and what was told of each term in use are some of its documents, by the
-- numbers that they will have
abbrev pub may_mount : State → ℕ → List ℕ → List ℕ → List (List ℕ) → List (List ℕ) → Bool
may_mount s dir name space documents told =
    is_free s dir name && is_space_name space && are_documents documents
    && are_told (mounted s dir name space (answers_to (terms_to_ask s.entries) told) documents) s.next (terms_to_ask s.entries) told
    && are_documents_few s.version documents

-- a mount can take over these documents, and what was told of each term in use are some of them
abbrev pub may_sync : State → ℕ → List (List ℕ) → List (List ℕ) → Bool
may_sync s mount documents told =
    is_mount_at s.entries mount && are_documents documents
    && are_told (synced s mount (answers_to (terms_to_ask s.entries) told) documents) mount (terms_to_ask s.entries) told
    && are_documents_few s.version documents

-- what the event refers to is in the tree. Marks, links, the queries of other directories, how much mounts keep and where
-- sessions stand are left out.
abbrev pub is_placed : State → Event → Bool
is_placed s (Mkdir dir name) = is_free s dir name
is_placed s (NewFile dir name text) = is_free s dir name && is_text text
is_placed s (Rewrite file text) = is_file_at s.entries file && is_text text
is_placed s (Ln dir name target) = is_free s dir name && is_target target
is_placed s (Smkdir dir name query told) = is_free s dir name && (may_ask s query && are_all_told s query told s.entries)
is_placed s (Setq dir query told) = is_made_holder s dir && (may_ask s query && are_all_told s query told s.entries)
is_placed s (Unq dir) = is_semantic s dir
is_placed s (Mark mark) = can_have_mark s mark.item mark.kind && is_semantic s mark.dir
is_placed s (Mv entry dir name) =
    is_some (entry_at s.entries entry) && not (is_document_at s.entries entry) && is_free s dir name && not (is_inside s dir entry)
is_placed s (Rm entry) = is_leaf_at s.entries entry
is_placed s (Rmdir dir) = is_made_holder s dir && is_empty_at s.entries dir
is_placed s Step = is_some (next_dirty s.entries)
is_placed s (Cd session dir) = is_space_name session && is_directory_at s.entries dir
is_placed s (Smount dir name space documents told) = may_mount s dir name space documents told
is_placed s (Ssync mount documents told) = may_sync s mount documents told
is_placed s (Sumount mount) = is_mount_at s.entries mount

-- no mark, no link, no query of another directory and no session stands against the event, and mounts don't come to keep
-- too many answers
abbrev pub is_clear : State → Event → Bool
is_clear s (Smkdir dir name query told) = are_answers_few (with_told query told s).entries
is_clear s (Setq dir query told) =
    is_none (cycle_over s dir (parent_of s dir) query) && are_answers_few (with_told query told s).entries
is_clear s (Mark mark) = may_mark s mark.dir mark.item mark.kind && is_none (cycle_of_mark s mark.dir mark.item mark.kind)
is_clear s (Mv entry dir name) = is_none (cycle_of_move s entry dir)
is_clear s (Rmdir dir) = is_unreferenced s dir && not (is_busy s.sessions dir)
is_clear s (Smount dir name space documents told) =
    are_answers_few (mounted s dir name space (answers_to (terms_to_ask s.entries) told) documents).entries
is_clear s (Ssync mount documents told) =
    are_answers_few (synced s mount (answers_to (terms_to_ask s.entries) told) documents).entries
is_clear s (Sumount mount) = is_unreferenced s mount && not (is_busy s.sessions mount)
is_clear s (Cd session dir) = are_few s.version (sessions_with session dir s.sessions)
is_clear s other = true

-- nothing stands against the event, and what it refers to is there, limits aside
abbrev pub is_possible : State → Event → Bool
is_possible s event = is_clear s event && is_placed s event

-- the path of a number once an entry is in another place: what is the entry, or is below it, has the new path in
-- place of the old one at its beginning
abbrev pub renamed : State → ℕ → ℕ → List ℕ → ℕ → List (List ℕ)
renamed s entry dir name number =
    if is_inside s number entry then path_of s dir ++ name ∷ drop (length (path_of s entry)) (path_of s number)
    else path_of s number

-- the state after an event
abbrev pub apply : State → Event → State
apply s (Mkdir dir name) = added s dir name Dir
apply s (NewFile dir name text) = added s dir name (File text true None)
apply s (Rewrite file text) = changed_at s file (edited (rewritten text))
apply s (Ln dir name target) = added s dir name (Symlink target)
apply s (Smkdir dir name query told) = added (with_told query told s) dir name (Semantic query [] [])
apply s (Setq dir query told) = changed_at (with_told query told s) dir (edited (asking query))
apply s (Unq dir) = changed_at s dir (edited plain_body)
apply s (Mark mark) = changed_at s mark.dir (edited (marked mark.item mark.kind))
apply s (Mv entry dir name) = changed_at s entry (reseated dir name)
apply s (Rm entry) = forgotten (removed s entry) entry
apply s (Rmdir dir) = removed s dir
apply s (Smount dir name space documents told) =
    mounted s dir name space (answers_to (terms_to_ask s.entries) told) documents
apply s (Ssync mount documents told) = synced s mount (answers_to (terms_to_ask s.entries) told) documents
apply s (Sumount mount) = unmounted s mount
apply s Step = option_map_or (λ file. changed_at s file (edited indexed)) (next_dirty s.entries) s
apply s (Cd session dir) = record s { sessions = sessions_with session dir s.sessions }

-- the state accepts the event: what it refers to is there, and no limit is exceeded
abbrev pub accepted : State → Event → Bool
accepted s event = is_possible s event && is_none (passed_limit (apply s event))

-- the state after events, one after the other
abbrev pub apply_all : State → List Event → State
apply_all s [] = s
apply_all s (event ∷ events) = apply_all (apply s event) events
