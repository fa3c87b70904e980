-- What the paths of a command lead to, from left to right, the directories of its query last.
use Rattle.std.specs.Prelude.{ℕ, Bool, true, false, if◌then◌else◌, List, [], ◌∷◌, ◌++◌, Option, Some, None, Result, Ok, Err}
use Rattle.std.specs.Option.{option_map_or}
use Rattle.hac_model.specs.Run.Answers.{◌>>=◌}
use Rattle.hac_model.specs.Query.Formula.{Formula}
use Rattle.hac_model.specs.Query.Formula as query
use Rattle.hac_model.specs.Tree.Looks.{look}
use Rattle.hac_model.specs.Tree.Paths.{join}
use Rattle.hac_model.specs.Tree.Sessions.{stands_in}
use Rattle.hac_model.specs.Tree.Links.{parent_of}
use Rattle.hac_model.specs.Tree.{is_directory_at, is_document_at, is_mount_at, path_of}
use Rattle.hac_model.specs.declared.commands.Command.{Command}
use Rattle.hac_model.specs.declared.commands.Command.TheVariants as command
use Rattle.hac_model.specs.declared.commands.Line.{Line}
use Rattle.hac_model.specs.declared.paths.PathWord.{PathWord}
use Rattle.hac_model.specs.declared.places.Place.{Place}
use Rattle.hac_model.specs.declared.places.Place.TheVariants.{There, Free}
use Rattle.hac_model.specs.declared.replies.Refusal.{Refusal}
use Rattle.hac_model.specs.declared.replies.Refusal.TheVariants.{BadLine, InMount, NoPath, NotDir}
use Rattle.hac_model.specs.declared.resolved.Resolved.{Resolved}
use Rattle.hac_model.specs.declared.resolved.Resolved.TheVariants.{Mkdir, Rmdir, Write, Cat, Ls, Cd, Pwd, Mv, Rm, Ln, Readlink, Smkdir, Setq, Unq, Query, Sls, Sln, Srm, Sforget, Find, Smount, Ssync, Sumount, Index, Tick, Counts, Checkpoint}
use Rattle.hac_model.specs.declared.states.State.{State}

-- where a path word leads from a directory: to an entry or a vacancy. A symbolic link as its last name is followed or not.
abbrev pub place : State → ℕ → Bool → PathWord → Result Place Refusal
place s base follow word = look s follow (join (path_of s base) word)

-- the mount to which a place belongs: that of a document, or one in which nothing has the name
abbrev pub mount_of : State → Place → Option ℕ
mount_of s (There number) = if is_document_at s.entries number then Some (parent_of s number) else None
mount_of s (Free dir name) = if is_mount_at s.entries dir then Some dir else None

-- the place isn't to be in a mount
abbrev pub outside_mounts : State → Place → Result Place Refusal
outside_mounts s found = option_map_or (λ mount. Err (InMount (path_of s mount))) (mount_of s found) (Ok found)

-- where a path word leads from a directory, so that something can be put there
abbrev pub slot : State → ℕ → Bool → PathWord → Result Place Refusal
slot s base follow word = do
  found ← place s base follow word
  outside_mounts s found

-- there is to be an entry there
abbrev pub wanted_entry : State → Place → Result ℕ Refusal
wanted_entry s (There number) = Ok number
wanted_entry s (Free dir name) = Err (NoPath (path_of s dir ++ name ∷ []))

-- the entry to which a path word leads, or the root
abbrev pub entry : State → ℕ → Bool → PathWord → Result ℕ Refusal
entry s base follow word = do
  found ← place s base follow word
  wanted_entry s found

-- the entry there isn't to be a document
abbrev pub wanted_own : State → ℕ → Result ℕ Refusal
wanted_own s number = if is_document_at s.entries number then Err (InMount (path_of s (parent_of s number))) else Ok number

-- the entry to which a path word leads, which isn't a document
abbrev pub own_entry : State → ℕ → Bool → PathWord → Result ℕ Refusal
own_entry s base follow word = do
  number ← entry s base follow word
  wanted_own s number

-- the entry there is to be a directory
abbrev pub wanted_directory : State → ℕ → Result ℕ Refusal
wanted_directory s number = if is_directory_at s.entries number then Ok number else Err (NotDir (path_of s number))

-- the directory to which a path word leads
abbrev pub directory : State → ℕ → PathWord → Result ℕ Refusal
directory s base word = do
  number ← entry s base true word
  wanted_directory s number

-- the directory there isn't to be a mount
abbrev pub wanted_holder : State → ℕ → Result ℕ Refusal
wanted_holder s number = if is_mount_at s.entries number then Err (InMount (path_of s number)) else Ok number

-- the directory to which a path word leads, which isn't a mount
abbrev pub holder : State → ℕ → PathWord → Result ℕ Refusal
holder s base word = do
  number ← directory s base word
  wanted_holder s number

-- the directory to which a path word leads, the one that it goes on from if none is given
abbrev pub listed_directory : State → ℕ → Option PathWord → Result ℕ Refusal
listed_directory s base word = option_map_or (directory s base) word (Ok base)

-- the directory to which a path word leads, the root if none is given
abbrev pub directory_or_root : State → ℕ → Option PathWord → Result ℕ Refusal
directory_or_root s base word = option_map_or (directory s base) word (Ok 0)

-- the query with each directory by its number
abbrev pub numbered_query : State → ℕ → Formula PathWord → Result (Formula ℕ) Refusal
numbered_query s base (query.Term term) = Ok (query.Term term)
numbered_query s base (query.Dir word) = do
  dir ← directory s base word
  Ok (query.Dir dir)
numbered_query s base (query.Not asked) = do
  inner ← numbered_query s base asked
  Ok (query.Not inner)
numbered_query s base (query.And left right) = do
  first ← numbered_query s base left
  second ← numbered_query s base right
  Ok (query.And first second)
numbered_query s base (query.Or left right) = do
  first ← numbered_query s base left
  second ← numbered_query s base right
  Ok (query.Or first second)

-- what is made of an item and a directory, to which two path words lead
abbrev pub item_and_dir : (ℕ → ℕ → Resolved) → State → ℕ → PathWord → PathWord → Result Resolved Refusal
item_and_dir make s base item dir = do
  first ← entry s base true item
  second ← directory s base dir
  Ok (make first second)

-- the command with what its paths lead to from a directory, or the first cause against it that lies in them. A `cd` is
-- nothing without its session.
abbrev pub resolved : State → ℕ → Command → Result Resolved Refusal
resolved s base (command.Mkdir path) = do
  found ← slot s base true path
  Ok (Mkdir found)
resolved s base (command.Rmdir path) = do
  dir ← holder s base path
  Ok (Rmdir dir)
resolved s base (command.Write path text) = do
  found ← slot s base true path
  Ok (Write found text)
resolved s base (command.Cat path) = do
  number ← entry s base true path
  Ok (Cat number)
resolved s base (command.Ls path) = do
  dir ← listed_directory s base path
  Ok (Ls dir)
resolved s base command.Pwd = Ok (Pwd base)
resolved s base (command.Mv from to) = do
  number ← own_entry s base false from
  found ← slot s base false to
  Ok (Mv number found)
resolved s base (command.Rm path) = do
  number ← own_entry s base false path
  Ok (Rm number)
resolved s base (command.Ln target path) = do
  found ← slot s base false path
  Ok (Ln found target)
resolved s base (command.Readlink path) = do
  number ← entry s base false path
  Ok (Readlink number)
resolved s base (command.Smkdir path raw) = do
  found ← slot s base true path
  asked ← numbered_query s base raw
  Ok (Smkdir found asked)
resolved s base (command.Setq path raw) = do
  dir ← holder s base path
  asked ← numbered_query s base raw
  Ok (Setq dir asked)
resolved s base (command.Unq path) = do
  dir ← directory s base path
  Ok (Unq dir)
resolved s base (command.Query path) = do
  dir ← directory s base path
  Ok (Query dir)
resolved s base (command.Sls path) = do
  dir ← listed_directory s base path
  Ok (Sls dir)
resolved s base (command.Sln item dir) = item_and_dir Sln s base item dir
resolved s base (command.Srm item dir) = item_and_dir Srm s base item dir
resolved s base (command.Sforget item dir) = item_and_dir Sforget s base item dir
resolved s base (command.Find raw) = do
  asked ← numbered_query s base raw
  Ok (Find asked)
resolved s base (command.Smount path space) = do
  found ← slot s base true path
  Ok (Smount found space)
resolved s base (command.Ssync path) = do
  dir ← directory s base path
  Ok (Ssync dir)
resolved s base (command.Sumount path) = do
  dir ← directory s base path
  Ok (Sumount dir)
resolved s base command.Index = Ok Index
resolved s base (command.Tick steps) = Ok (Tick steps)
resolved s base command.Counts = Ok Counts
resolved s base command.Checkpoint = Ok Checkpoint
resolved s base other = Err BadLine

-- the same for a session's command
abbrev pub resolved_for : State → List ℕ → ℕ → Command → Result Resolved Refusal
resolved_for s session base (command.Cd path) = do
  dir ← directory_or_root s base path
  Ok (Cd session dir)
resolved_for s session base other = resolved s base other

-- what a line asks for: its paths go on from where its session stands
abbrev pub resolve : State → Line → Result Resolved Refusal
resolve s line = resolved_for s line.session (stands_in s.sessions line.session) line.command
