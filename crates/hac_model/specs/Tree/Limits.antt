-- How much a state holds, and which limit it exceeds.
use Rattle.std.specs.Prelude.{ℕ, Bool, ◌+◌, ◌&&◌, if◌then◌else◌, nat_lt, nat_le, max, List, [], ◌∷◌, ◌++◌, length, sum_by, count_by, Option, Some, None}
use Rattle.std.specs.List.{list_all}
use Rattle.std.specs.Option.{option_map_or}
use Rattle.hac_model.specs.Tree.{answers_in, is_directory, is_dirty, is_file, is_linkable, is_mount, is_plain, is_queried, is_symlink, lineage}
use Rattle.hac_model.specs.Versions.{dirs_limit, mounts_limit, numbers_limit, symlinks_limit}
use Rattle.hac_model.specs.declared.counts.Counts.{Counts}
use Rattle.hac_model.specs.declared.limits.Limit.{Limit}
use Rattle.hac_model.specs.declared.limits.LimitWord.{LimitWord}
use Rattle.hac_model.specs.declared.limits.LimitWord.TheVariants.{Texts, Dirs, Semantics, Mounts, Symlinks, Path, Items, Numbers}
use Rattle.hac_model.specs.declared.limits.TheConstants.{ANSWERS_LIMIT, PAIRS_LIMIT, PATH_LIMIT, TEXT_LIMIT, TEXTS_LIMIT, SEMANTICS_LIMIT, ITEMS_LIMIT}
use Rattle.hac_model.specs.declared.states.Body.{Body}
use Rattle.hac_model.specs.declared.states.Body.TheVariants.{File}
use Rattle.hac_model.specs.declared.states.Entry.{Entry}
use Rattle.hac_model.specs.declared.states.State.{State}
use Rattle.hac_model.specs.declared.versions.Version.{Version}

-- the bytes may be a file's text
abbrev pub is_text : List ℕ → Bool
is_text text = nat_le (length text) TEXT_LIMIT

-- the bytes of a file: the longer of its text and its shown text
abbrev pub file_bytes : Body → ℕ
file_bytes (File text dirty shown) = max (length text) (option_map_or (λ shown. length shown) shown 0)
file_bytes other = 0

-- the bytes of all files
abbrev pub text_size : List Entry → ℕ
text_size entries = sum_by (λ entry. file_bytes entry.body) entries

-- how many directories there are, of any kind and with the root
abbrev pub directory_count : List Entry → ℕ
directory_count entries = count_by (λ entry. is_directory entry.body) entries + 1

abbrev pub semantic_count : List Entry → ℕ
semantic_count entries = count_by (λ entry. is_queried entry.body) entries

abbrev pub mount_count : List Entry → ℕ
mount_count entries = count_by (λ entry. is_mount entry.body) entries

abbrev pub symlink_count : List Entry → ℕ
symlink_count entries = count_by (λ entry. is_symlink entry.body) entries

abbrev pub file_count : List Entry → ℕ
file_count entries = count_by (λ entry. is_file entry.body) entries

-- how many files and documents there are
abbrev pub item_count : List Entry → ℕ
item_count entries = count_by (λ entry. is_linkable entry.body) entries

-- how many files are dirty
abbrev pub dirty_count : List Entry → ℕ
dirty_count entries = count_by (λ entry. is_dirty entry.body) entries

-- how many plain directories there are, without the root
abbrev pub plain_count : List Entry → ℕ
plain_count entries = count_by (λ entry. is_plain entry.body) entries

-- how many names have to fit into a path below an entry: one for the documents of a mount
abbrev pub names_below : Body → ℕ
names_below body = if is_mount body then 1 else 0

-- the path of an entry has no more names than a path may have, also with those below it
abbrev pub has_short_path : List Entry → Entry → Bool
has_short_path entries entry = nat_le (length (lineage entries entry.number) + names_below entry.body) PATH_LIMIT

-- no path has more names than a path may have
abbrev pub are_paths_short : List Entry → Bool
are_paths_short entries = list_all (has_short_path entries) entries

-- how many paths have more names than a path may have: 1 where there is any
abbrev pub long_paths : List Entry → ℕ
long_paths entries = if are_paths_short entries then 0 else 1

-- how much a state holds
abbrev pub counts : State → Counts
counts s = record {
  bytes = text_size s.entries;
  directories = directory_count s.entries;
  semantics = semantic_count s.entries;
  mounts = mount_count s.entries;
  symlinks = symlink_count s.entries;
  files = file_count s.entries;
  items = item_count s.entries;
  dirty = dirty_count s.entries;
  long_paths = long_paths s.entries;
  next = s.next;
}

-- how many documents the kept answers of a mount name
abbrev pub documents_kept : Body → ℕ
documents_kept body = sum_by (λ answer. length answer.documents) (answers_in body)

-- how many answers a mount keeps
abbrev pub answers_kept : Body → ℕ
answers_kept body = length (answers_in body)

-- mounts keep no more answers than they may
abbrev pub are_answers_few : List Entry → Bool
are_answers_few entries =
    nat_le (sum_by (λ entry. documents_kept entry.body) entries) ANSWERS_LIMIT
    && nat_le (sum_by (λ entry. answers_kept entry.body) entries) PAIRS_LIMIT

-- a limit: how much there is, the most that there may be, and the word
abbrev pub limit : ℕ → ℕ → LimitWord → Limit
limit count most word = record { count = count; most = most; word = word }

-- the limits on the tree itself, in the order in which they are tested, in a store of a version
abbrev pub layout_limits : Version → Counts → List Limit
layout_limits version counts =
    limit counts.bytes TEXTS_LIMIT Texts
    ∷ limit counts.directories (dirs_limit version) Dirs
    ∷ limit counts.semantics SEMANTICS_LIMIT Semantics
    ∷ limit counts.mounts (mounts_limit version) Mounts
    ∷ limit counts.symlinks (symlinks_limit version) Symlinks
    ∷ limit counts.long_paths 0 Path
    ∷ []

-- those that depend on what spaces answer too, which are tested after all else
abbrev pub answer_limits : Version → Counts → List Limit
answer_limits version counts =
    limit counts.items ITEMS_LIMIT Items
    ∷ limit counts.next (numbers_limit version) Numbers
    ∷ []

-- the word of the first limit that is exceeded
unfoldable pub first_passed : List Limit → Option LimitWord
first_passed [] = None
first_passed (limit ∷ limits) = if nat_lt limit.most limit.count then Some limit.word else first_passed limits

-- the first limit that the state exceeds
unfoldable pub passed_limit : State → Option LimitWord
passed_limit s = first_passed (layout_limits s.version (counts s) ++ answer_limits s.version (counts s))
