-- Why a state refuses a command: the first cause of the one order.
use Rattle.std.specs.Prelude.{ℕ, ◌==◌, ◌||◌, if◌then◌else◌, List, [], ◌∷◌, map, min, replicate, Option, None, Some, Result, Ok, Err, option_and_then}
use Rattle.std.specs.Option.{option_map, option_map_or}
use Rattle.hac_model.specs.Run.Answers.{first_cause}
use Rattle.hac_model.specs.Run.Given.{no_answers}
use Rattle.hac_model.specs.Tree.Depends.{cycle_of_mark, cycle_of_move, cycle_over, referrers}
use Rattle.hac_model.specs.Tree.Events.{apply_all, dirty, is_empty_at, is_inside}
use Rattle.hac_model.specs.Tree.Limits.{are_answers_few, counts, first_passed, layout_limits, passed_limit}
use Rattle.hac_model.specs.Tree.Mounting.{are_documents_few, mounted, synced}
use Rattle.hac_model.specs.Tree.Links.{has, is_permanent, is_prohibited, is_semantic, parent_of, transient_at}
use Rattle.hac_model.specs.Tree.Listing.{is_before}
use Rattle.hac_model.specs.Tree.Paths.{path_text}
use Rattle.hac_model.specs.Tree.Sessions.{are_few, least_name, sessions_with, visitors}
use Rattle.hac_model.specs.Run.Asks.{documents_named, told_for}
use Rattle.hac_model.specs.Run.Resolving.{resolve}
use Rattle.hac_model.specs.Tree.{is_directory_at, is_document_at, is_mount_at, is_symlink_at, path_of}
use Rattle.hac_model.specs.declared.commands.Line.{Line}
use Rattle.hac_model.specs.declared.events.Event.{Event}
use Rattle.hac_model.specs.declared.events.Event.TheVariants as event
use Rattle.hac_model.specs.declared.limits.LimitWord.TheVariants.{Answers as AnswersWord, Docs, Sessions}
use Rattle.hac_model.specs.declared.marks.Kind.{Kind}
use Rattle.hac_model.specs.declared.marks.Kind.TheVariants.{Permanent, Prohibited, Unlinked}
use Rattle.hac_model.specs.declared.places.Place.{Place}
use Rattle.hac_model.specs.declared.places.Place.TheVariants.{There, Free}
use Rattle.hac_model.specs.declared.replies.Refusal.{Refusal}
use Rattle.hac_model.specs.declared.replies.Refusal.TheVariants.{NotFile, Exists, NotEmpty, Under, Root, Cycle, Referenced, Busy, NotSemantic, NotLink, NotLinked, NotMount, Already, NoMark, Gone, Limit}
use Rattle.hac_model.specs.declared.resolved.Resolved.{Resolved}
use Rattle.hac_model.specs.declared.resolved.Resolved.TheVariants.{Mkdir, Rmdir, Write, Cat, Ls, Cd, Pwd, Mv, Rm, Ln, Readlink, Smkdir, Setq, Unq, Query, Sls, Sln, Srm, Sforget, Find, Smount, Ssync, Sumount, Index, Tick, Counts, Checkpoint}
use Rattle.hac_model.specs.declared.spaces.Answers.{Answers}
use Rattle.hac_model.specs.declared.states.State.{State}

-- the root can't be removed or moved
abbrev pub root_cause : ℕ → Option Refusal
root_cause number = if number == 0 then Some Root else None

-- a file is wanted, but a directory is there
abbrev pub directory_cause : State → ℕ → Option Refusal
directory_cause s number = if is_directory_at s.entries number then Some (NotFile (path_of s number)) else None

-- the same at a place where nothing may be yet
abbrev pub written_cause : State → Place → Option Refusal
written_cause s (There number) = directory_cause s number
written_cause s (Free dir name) = None

-- something is to be created where something is already
abbrev pub taken_cause : State → Place → Option Refusal
taken_cause s (There number) = Some (Exists (path_of s number))
taken_cause s (Free dir name) = None

-- an entry would move into itself or below itself
abbrev pub under_cause : State → ℕ → Place → Option Refusal
under_cause s entry (There number) = None
under_cause s entry (Free dir name) = if is_inside s dir entry then Some (Under (path_of s entry)) else None

-- a directory to be removed isn't empty
abbrev pub filled_cause : State → ℕ → Option Refusal
filled_cause s dir = if is_empty_at s.entries dir then None else Some (NotEmpty (path_of s dir))

-- a symbolic link is wanted
abbrev pub not_link_cause : State → ℕ → Option Refusal
not_link_cause s number = if is_symlink_at s.entries number then None else Some (NotLink (path_of s number))

-- a semantic directory is wanted
abbrev pub plain_cause : State → ℕ → Option Refusal
plain_cause s dir = if is_semantic s dir then None else Some (NotSemantic (path_of s dir))

-- the lesser of two paths, compared as they are printed
abbrev pub lesser_path : List (List ℕ) → List (List ℕ) → List (List ℕ)
lesser_path path other = if is_before (path_text other) (path_text path) then other else path

-- the least of paths: of the first one and the least of the others the lesser
abbrev pub least_path : List (List (List ℕ)) → Option (List (List ℕ))
least_path [] = None
least_path (path ∷ paths) = Some (option_map_or (lesser_path path) (least_path paths) path)

-- a mount is wanted
abbrev pub not_mount_cause : State → ℕ → Option Refusal
not_mount_cause s dir = if is_mount_at s.entries dir then None else Some (NotMount (path_of s dir))

-- a query names the directory to be removed, or it was added to a directory: the least path of such a directory
abbrev pub referenced_cause : State → ℕ → Option Refusal
referenced_cause s dir = option_map Referenced (least_path (map (λ entry. path_of s entry.number) (referrers s dir)))

-- a session stands in the directory to be removed: the least of the names of those that do
abbrev pub busy_cause : State → ℕ → Option Refusal
busy_cause s dir = option_map Busy (least_name (visitors s.sessions dir))

-- too many sessions would stand elsewhere than in the root
abbrev pub session_cause : State → List ℕ → ℕ → Option Refusal
session_cause s session dir = if are_few s.version (sessions_with session dir s.sessions) then None else Some (Limit Sessions)

-- what is to be added is already a permanent link
abbrev pub already_cause : State → ℕ → ℕ → Option Refusal
already_cause s item dir = if is_permanent s dir item then Some (Already (path_of s item)) else None

-- an item to be removed isn't a link
abbrev pub unlinked_cause : State → ℕ → ℕ → Option Refusal
unlinked_cause s item dir = if is_permanent s dir item || has (transient_at s dir) item then None else Some (NotLinked (path_of s item))

-- what is to be unmarked has no mark
abbrev pub unmarked_cause : State → ℕ → ℕ → Option Refusal
unmarked_cause s item dir = if is_permanent s dir item || is_prohibited s dir item then None else Some (NoMark (path_of s item))

-- what blocks a command whose paths were followed
abbrev pub blocking_cause : State → Resolved → Option Refusal
blocking_cause s (Mkdir place) = taken_cause s place
blocking_cause s (Rmdir dir) = first_cause (root_cause dir ∷ filled_cause s dir ∷ referenced_cause s dir ∷ busy_cause s dir ∷ [])
blocking_cause s (Write place text) = written_cause s place
blocking_cause s (Cat entry) = directory_cause s entry
blocking_cause s (Ls dir) = None
blocking_cause s (Cd session dir) = session_cause s session dir
blocking_cause s (Pwd dir) = None
blocking_cause s (Mv entry place) = first_cause (root_cause entry ∷ taken_cause s place ∷ under_cause s entry place ∷ [])
blocking_cause s (Rm entry) = first_cause (root_cause entry ∷ directory_cause s entry ∷ [])
blocking_cause s (Ln place target) = taken_cause s place
blocking_cause s (Readlink entry) = not_link_cause s entry
blocking_cause s (Smkdir place query) = taken_cause s place
blocking_cause s (Setq dir query) = root_cause dir
blocking_cause s (Unq dir) = plain_cause s dir
blocking_cause s (Query dir) = plain_cause s dir
blocking_cause s (Sls dir) = plain_cause s dir
blocking_cause s (Sln item dir) = first_cause (plain_cause s dir ∷ already_cause s item dir ∷ [])
blocking_cause s (Srm item dir) = first_cause (directory_cause s item ∷ plain_cause s dir ∷ unlinked_cause s item dir ∷ [])
blocking_cause s (Sforget item dir) = first_cause (plain_cause s dir ∷ unmarked_cause s item dir ∷ [])
blocking_cause s (Find query) = None
blocking_cause s (Smount place space) = taken_cause s place
blocking_cause s (Ssync mount) = not_mount_cause s mount
blocking_cause s (Sumount mount) = first_cause (not_mount_cause s mount ∷ referenced_cause s mount ∷ busy_cause s mount ∷ [])
blocking_cause s Index = None
blocking_cause s (Tick steps) = None
blocking_cause s Counts = None
blocking_cause s Checkpoint = None

-- something is created where nothing is
abbrev pub makes : Place → (ℕ → List ℕ → Event) → Option Event
makes (There number) make = None
makes (Free dir name) make = Some (make dir name)

-- a text is written to the file that is there, or to a new one
abbrev pub writes : Place → List ℕ → Event
writes (There number) text = event.Rewrite number text
writes (Free dir name) text = event.NewFile dir name text

-- an item or a directory gets a mark in a directory
abbrev pub marks : ℕ → ℕ → Kind → Event
marks item dir kind = event.Mark (record { dir = dir; item = item; kind = kind })

-- A space is mounted with the documents that it listed. What was told of a term are those of them that were found for
-- it, by the numbers that they will have.
abbrev pub mounting : State → List ℕ → Answers → ℕ → List ℕ → Event
mounting s space answers dir name =
    event.Smount dir name space answers.list (map (documents_named (mounted s dir name space [] answers.list) s.next) answers.found)

-- a mount takes over what its space has now
abbrev pub syncing : State → ℕ → Answers → Event
syncing s mount answers = event.Ssync mount answers.list (map (documents_named (synced s mount [] answers.list) mount) answers.found)

-- the event of a command that isn't refused, where it makes one, given what spaces answer
abbrev pub event_of : Answers → State → Resolved → Option Event
event_of answers s (Mkdir place) = makes place event.Mkdir
event_of answers s (Rmdir dir) = Some (event.Rmdir dir)
event_of answers s (Write place text) = Some (writes place text)
event_of answers s (Cd session dir) = Some (event.Cd session dir)
event_of answers s (Mv entry place) = makes place (event.Mv entry)
event_of answers s (Rm entry) = Some (event.Rm entry)
event_of answers s (Ln place target) = makes place (λ dir name. event.Ln dir name target)
event_of answers s (Smkdir place query) = makes place (λ dir name. event.Smkdir dir name query (told_for s query answers.found))
event_of answers s (Setq dir query) = Some (event.Setq dir query (told_for s query answers.found))
event_of answers s (Unq dir) = Some (event.Unq dir)
event_of answers s (Sln item dir) = Some (marks item dir Permanent)
event_of answers s (Srm item dir) = Some (marks item dir Prohibited)
event_of answers s (Sforget item dir) = Some (marks item dir Unlinked)
event_of answers s (Smount place space) = makes place (mounting s space answers)
event_of answers s (Ssync mount) = Some (syncing s mount answers)
event_of answers s (Sumount mount) = Some (event.Sumount mount)
event_of answers s other = None

-- all its events: `index` is as many steps as there are dirty files, `tick` no more than that
abbrev pub events_of : Answers → State → Resolved → List Event
events_of answers s Index = replicate (dirty s) event.Step
events_of answers s (Tick steps) = replicate (min steps (dirty s)) event.Step
events_of answers s command = option_map_or (λ event. event ∷ []) (event_of answers s command) []

-- the state that a command would lead to
abbrev pub led_to : Answers → State → Resolved → State
led_to answers s command = apply_all s (events_of answers s command)

-- the first limit on the tree that the next state would exceed, whatever spaces answer
abbrev pub layout_cause : State → Resolved → Option Refusal
layout_cause s command =
    option_map Limit (first_passed (layout_limits s.version (counts (led_to no_answers s command))))

-- the first limit of all that it would exceed
abbrev pub answer_cause : Answers → State → Resolved → Option Refusal
answer_cause answers s command = option_map Limit (passed_limit (led_to answers s command))

-- a directory would depend on itself through this one
abbrev pub cycle_by : State → Option ℕ → Option Refusal
cycle_by s way = option_map (λ dir. Cycle (path_of s dir)) way

-- the event would let a directory depend on itself, once it has a query or another place, or another directory was added to
-- it. A new one can't, as nothing depends on it yet.
abbrev pub cycle_against : State → Event → Option Refusal
cycle_against s (event.Setq dir query told) = cycle_by s (cycle_over s dir (parent_of s dir) query)
cycle_against s (event.Mv entry dir name) = cycle_by s (cycle_of_move s entry dir)
cycle_against s (event.Mark mark) = cycle_by s (cycle_of_mark s mark.dir mark.item mark.kind)
cycle_against s other = None

-- so does the event of a command, whatever spaces answer
abbrev pub cycle_cause : State → Resolved → Option Refusal
cycle_cause s command = option_and_then (cycle_against s) (event_of no_answers s command)

-- the causes that don't depend on answers: what blocks the command, then the limits on the tree itself, then a cycle
abbrev pub early_cause : State → Resolved → Option Refusal
early_cause s command = first_cause (blocking_cause s command ∷ layout_cause s command ∷ cycle_cause s command ∷ [])

-- the space of a document has no document of its name
abbrev pub gone_cause : Answers → State → Resolved → Option Refusal
gone_cause answers s (Cat entry) =
    if is_document_at s.entries entry then option_map_or (λ text. None) answers.fetched (Some (Gone (path_of s entry))) else None
gone_cause answers s other = None

-- a space has more documents than a mount may have
abbrev pub docs_cause : State → Answers → Option Refusal
docs_cause s answers = if are_documents_few s.version answers.list then None else Some (Limit Docs)

-- mounts would come to keep more answers than they may
abbrev pub kept_cause : Answers → State → Resolved → Option Refusal
kept_cause answers s command = if are_answers_few (led_to answers s command).entries then None else Some (Limit AnswersWord)

-- the causes that depend on what spaces answer
abbrev pub late_cause : Answers → State → Resolved → Option Refusal
late_cause answers s command =
    first_cause (gone_cause answers s command ∷ docs_cause s answers ∷ answer_cause answers s command ∷ kept_cause answers s command ∷ [])

-- the first cause of all, where the spaces answer so
abbrev pub cause : Answers → State → Resolved → Option Refusal
cause answers s command = first_cause (early_cause s command ∷ late_cause answers s command ∷ [])

-- the first cause against a line, where this is what its paths lead to: a path comes before what blocks the command
abbrev pub cause_against : (Resolved → Option Refusal) → Result Resolved Refusal → Option Refusal
cause_against against (Err refusal) = Some refusal
cause_against against (Ok command) = against command

-- why the state refuses a line
abbrev pub refusal : Answers → State → Line → Option Refusal
refusal answers s line = cause_against (cause answers s) (resolve s line)

-- the same, whatever spaces answer
abbrev pub early_refusal : State → Line → Option Refusal
early_refusal s line = cause_against (early_cause s) (resolve s line)
