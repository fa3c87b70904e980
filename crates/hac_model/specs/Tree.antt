-- The tree: entries, and which is in which directory.
pub mod Bare
pub mod Changes
pub mod Valid
pub mod ValidTest
pub mod Looks
pub mod Same
pub mod Listing
pub mod Paths
pub mod Names
pub mod Links
pub mod Kinds
pub mod Depends
pub mod Limits
pub mod Events
pub mod Facts
pub mod Sessions
pub mod Mounts
pub mod Mounting
pub mod Asking
pub mod Touched
pub mod Costs
use Rattle.std.specs.Prelude.{ℕ, zero, suc, ◌+◌, Bool, true, false, ◌==◌, ◌&&◌, ◌||◌, not, if◌then◌else◌, List, [], ◌∷◌, map, reverse, Option, Some, None, is_some}
use Rattle.std.specs.Option.{option_map, option_map_or}
use Rattle.std.specs.Str.{bytes_eq}
use Rattle.hac_model.specs.declared.limits.TheConstants.{PATH_LIMIT}
use Rattle.hac_model.specs.Query.Formula.{Formula}
use Rattle.hac_model.specs.declared.states.Answer.{Answer}
use Rattle.hac_model.specs.declared.states.Body.{Body}
use Rattle.hac_model.specs.declared.states.Body.TheVariants.{File, Dir, Symlink, Semantic, Mount, Document}
use Rattle.hac_model.specs.declared.states.Entry.{Entry}
use Rattle.hac_model.specs.declared.states.EntryKind.{EntryKind}
use Rattle.hac_model.specs.declared.states.EntryKind.TheVariants as kind
use Rattle.hac_model.specs.declared.states.State.{State}
use Rattle.hac_model.specs.declared.versions.Version.{Version}
use Rattle.hac_model.specs.declared.versions.Version.TheVariants.{Two}

-- the root alone in a store of a version: the first entry will take the number 1
abbrev pub root_alone : Version → State
root_alone version = record { version = version; next = 1; entries = []; sessions = [] }

-- the state in a store of version 2
abbrev pub raised : State → State
raised s = record s { version = Two }

-- what a new store holds
abbrev pub empty : State
empty = root_alone Two

-- the entry of a number. The root has none.
abbrev pub entry_at : List Entry → ℕ → Option Entry
entry_at [] number = None
entry_at (entry ∷ entries) number = if entry.number == number then Some entry else entry_at entries number

-- what the entry of a number is
abbrev pub body_at : List Entry → ℕ → Option Body
body_at entries number = option_map (λ entry. entry.body) (entry_at entries number)

-- the number of what a directory has under a name
abbrev pub child : List Entry → ℕ → List ℕ → Option ℕ
child [] dir name = None
child (entry ∷ entries) dir name =
    if entry.parent == dir && bytes_eq entry.name name then Some entry.number else child entries dir name

-- the entry of a number, then that of its directory, and so on up to the one in the root, in at most this many steps
abbrev pub ancestors : ℕ → List Entry → ℕ → List Entry
ancestors zero entries number = []
ancestors (suc steps) entries number = option_map_or (λ entry. entry ∷ ancestors steps entries entry.parent) (entry_at entries number) []

-- all of them, where a path has no more names than it may; one more at most
unfoldable pub lineage : List Entry → ℕ → List Entry
lineage entries number = ancestors (PATH_LIMIT + 1) entries number

-- the path of an entry: the names of its lineage from the root on. That of the root has none.
unfoldable pub path_of : State → ℕ → List (List ℕ)
path_of s number = reverse (map (λ entry. entry.name) (lineage s.entries number))

-- of which kind an entry with this body is
abbrev pub entry_kind : Body → EntryKind
entry_kind (File text dirty shown) = kind.File
entry_kind Dir = kind.Dir
entry_kind (Symlink target) = kind.Symlink
entry_kind (Semantic query permanent prohibited) = kind.Semantic
entry_kind (Mount space answers) = kind.Mount
entry_kind Document = kind.Document

-- the kind of the entry of a number. The root, which is no entry, is a plain directory.
abbrev pub entry_kind_at : List Entry → ℕ → EntryKind
entry_kind_at entries number = option_map_or entry_kind (body_at entries number) kind.Dir

-- two kinds are the same
abbrev pub is_kind : EntryKind → EntryKind → Bool
is_kind kind.File kind.File = true
is_kind kind.Dir kind.Dir = true
is_kind kind.Symlink kind.Symlink = true
is_kind kind.Semantic kind.Semantic = true
is_kind kind.Mount kind.Mount = true
is_kind kind.Document kind.Document = true
is_kind one other = false

abbrev pub is_file : Body → Bool
is_file body = is_kind kind.File (entry_kind body)

abbrev pub is_symlink : Body → Bool
is_symlink body = is_kind kind.Symlink (entry_kind body)

-- nothing can be in it
abbrev pub is_leaf : Body → Bool
is_leaf body = is_file body || is_symlink body

abbrev pub is_mount : Body → Bool
is_mount body = is_kind kind.Mount (entry_kind body)

abbrev pub is_document : Body → Bool
is_document body = is_kind kind.Document (entry_kind body)

-- it can be linked: a file or a document
abbrev pub is_linkable : Body → Bool
is_linkable body = is_file body || is_document body

-- a directory that is neither semantic nor a mount
abbrev pub is_plain : Body → Bool
is_plain body = is_kind kind.Dir (entry_kind body)

-- a directory of any kind
abbrev pub is_directory : Body → Bool
is_directory body = is_plain body || (is_kind kind.Semantic (entry_kind body) || is_mount body)

-- was made or written since it was last indexed
abbrev pub is_dirty : Body → Bool
is_dirty (File text dirty shown) = dirty
is_dirty other = false

-- a file's text
abbrev pub text_in : Body → Option (List ℕ)
text_in (File text dirty shown) = Some text
text_in other = None

-- the text as it was last indexed
abbrev pub shown_text : Body → Option (List ℕ)
shown_text (File text dirty shown) = shown
shown_text other = None

-- where a symbolic link leads
abbrev pub target_in : Body → Option (List ℕ)
target_in (Symlink target) = Some target
target_in other = None

-- what a semantic directory asks for
abbrev pub query_in : Body → Option (Formula ℕ)
query_in (Semantic query permanent prohibited) = Some query
query_in other = None

-- it asks for something
abbrev pub is_queried : Body → Bool
is_queried body = is_some (query_in body)

-- the items and directories that the user added to a semantic directory
abbrev pub permanent_in : Body → List ℕ
permanent_in (Semantic query permanent prohibited) = permanent
permanent_in other = []

-- those that the user removed from it
abbrev pub prohibited_in : Body → List ℕ
prohibited_in (Semantic query permanent prohibited) = prohibited
prohibited_in other = []

-- the space that a mount shows
abbrev pub space_in : Body → Option (List ℕ)
space_in (Mount space answers) = Some space
space_in other = None

-- what the space of a mount answered
abbrev pub answers_in : Body → List Answer
answers_in (Mount space answers) = answers
answers_in other = []

-- a file has the number
abbrev pub is_file_at : List Entry → ℕ → Bool
is_file_at entries number = option_map_or is_file (body_at entries number) false

-- a symbolic link has the number
abbrev pub is_symlink_at : List Entry → ℕ → Bool
is_symlink_at entries number = option_map_or is_symlink (body_at entries number) false

-- a file or a symbolic link has the number
abbrev pub is_leaf_at : List Entry → ℕ → Bool
is_leaf_at entries number = option_map_or is_leaf (body_at entries number) false

-- a mount has the number
abbrev pub is_mount_at : List Entry → ℕ → Bool
is_mount_at entries number = option_map_or is_mount (body_at entries number) false

-- a document has the number
abbrev pub is_document_at : List Entry → ℕ → Bool
is_document_at entries number = option_map_or is_document (body_at entries number) false

-- an entry of the number is a directory
abbrev pub is_made_directory : List Entry → ℕ → Bool
is_made_directory entries number = option_map_or is_directory (body_at entries number) false

-- a directory has the number: the root, or one that was made
abbrev pub is_directory_at : List Entry → ℕ → Bool
is_directory_at entries number = number == 0 || is_made_directory entries number

-- users can put entries into the directory of the number: it isn't a mount
abbrev pub is_holder_at : List Entry → ℕ → Bool
is_holder_at entries number = is_directory_at entries number && not (is_mount_at entries number)

-- the root, or an entry, has the number
abbrev pub is_live : List Entry → ℕ → Bool
is_live entries number = number == 0 || is_some (entry_at entries number)

-- the path goes on from the other one, by a name at least
abbrev pub extends : List (List ℕ) → List (List ℕ) → Bool
extends [] base = false
extends (name ∷ names) [] = true
extends (name ∷ names) (other ∷ base) = bytes_eq name other && extends names base
