-- What a tree is ready for.
use Rattle.std.specs.Prelude.{ℕ, Bool, false, ◌==◌, ◌||◌, List, [], Option, Some, None}
use Rattle.std.specs.Option.{option_map_or}
use Rattle.hac_model.specs.Script.PathWords.{untested_word}
use Rattle.hac_model.specs.declared.paths.PathWord.{PathWord}
use Rattle.hac_model.specs.declared.states.State.{State}
use Rattle.file_tree.specs.Answers.{is_dirty_at}
use Rattle.file_tree.specs.declared.bodies.NewBody.{NewBody}
use Rattle.file_tree.specs.declared.ready.Ready.{Ready}
use Rattle.file_tree.specs.declared.ready.Ready.TheVariants.{Nothing, Add, Link, Move, Text, Mount, Sync}
use Rattle.file_tree.specs.declared.bodies.NewBody.TheVariants as new
use Rattle.hac_model.specs.declared.states.EntryKind.TheVariants as kind

-- the file that the prepared change will make dirty, given the number of a new entry
abbrev pub awaited : ℕ → Ready → Option ℕ
awaited next Nothing = None
awaited next (Add dir kind.File) = Some next
awaited next (Add dir other) = None
awaited next (Link dir word) = None
awaited next (Move dir) = None
awaited next (Text file) = Some file
awaited next (Mount dir count) = None
awaited next (Sync mount numbers) = None

-- the word of the symbolic link that is to be created
abbrev pub word_in : Ready → Option PathWord
word_in (Link dir word) = Some word
word_in other = None

-- the list of the mount that is to be synced
abbrev pub numbers_in : Ready → List ℕ
numbers_in (Sync mount numbers) = numbers
numbers_in other = []

-- what the tree has to be ready for when a new entry goes to a directory
abbrev pub ready_for : ℕ → NewBody → Ready
ready_for dir (new.File text) = Add dir kind.File
ready_for dir new.Dir = Add dir kind.Dir
ready_for dir (new.Symlink target) = Link dir (untested_word target)
ready_for dir (new.Semantic query) = Add dir kind.Semantic
ready_for dir (new.Mount space) = Add dir kind.Mount
ready_for dir new.Document = Add dir kind.Document

-- it is this number
abbrev pub is_number : Option ℕ → ℕ → Bool
is_number found number = option_map_or (λ other. other == number) found false

-- the file of this number is awaited
abbrev pub is_awaited : ℕ → Ready → ℕ → Bool
is_awaited next ready number = is_number (awaited next ready) number

-- a file is to be indexed, or will be once the prepared change is made
abbrev pub is_to_index : State → Ready → ℕ → Bool
is_to_index s ready number = is_dirty_at s.entries number || is_awaited s.next ready number
