-- What one entry counts for, and sums of counts.
use Rattle.std.specs.Prelude.{◌≡◌, ℕ, ◌+◌, ◌<◌, ◌^◌, Bool, if◌then◌else◌, is_some, Some}
use Rattle.hac_model.specs.Tree.Limits.{file_bytes}
use Rattle.hac_model.specs.Tree.{entry_at, is_directory, is_dirty, is_file, is_linkable, is_mount, is_symlink, query_in}
use Rattle.hac_model.specs.declared.counts.Counts.{Counts}
use Rattle.hac_model.specs.declared.states.Body.{Body}
use Rattle.hac_model.specs.declared.states.Entry.{Entry}
use Rattle.hac_model.specs.declared.states.State.{State}

-- 1 where it holds
abbrev pub one_if : Bool → ℕ
one_if b = if b then 1 else 0

-- what one entry counts for
abbrev pub share_of : Body → Counts
share_of body = record {
  bytes = file_bytes body;
  directories = one_if (is_directory body);
  semantics = one_if (is_some (query_in body));
  mounts = one_if (is_mount body);
  symlinks = one_if (is_symlink body);
  files = one_if (is_file body);
  items = one_if (is_linkable body);
  dirty = one_if (is_dirty body);
  long_paths = 0;
  next = 0;
}

-- it is what the entry of a number counts for, once its body is edited
abbrev pub IsShare : Counts → (Body → Body) → State → ℕ → Type 0
IsShare share edit s number = (entry : Entry) → entry_at s.entries number ≡ Some entry → share ≡ share_of (edit entry.body)

-- two counts added up
abbrev pub plus : Counts → Counts → Counts
plus a b = record {
  bytes = a.bytes + b.bytes;
  directories = a.directories + b.directories;
  semantics = a.semantics + b.semantics;
  mounts = a.mounts + b.mounts;
  symlinks = a.symlinks + b.symlinks;
  files = a.files + b.files;
  items = a.items + b.items;
  dirty = a.dirty + b.dirty;
  long_paths = a.long_paths + b.long_paths;
  next = a.next + b.next;
}

-- the counts can be added
pub record AreSmall (counts : Counts) : Type 0 where
  pub bytes_are : counts.bytes < 2 ^ 63
  pub directories_are : counts.directories < 2 ^ 63
  pub semantics_are : counts.semantics < 2 ^ 63
  pub mounts_are : counts.mounts < 2 ^ 63
  pub symlinks_are : counts.symlinks < 2 ^ 63
  pub files_are : counts.files < 2 ^ 63
  pub items_are : counts.items < 2 ^ 63
  pub dirty_are : counts.dirty < 2 ^ 63
  pub long_paths_are : counts.long_paths < 2 ^ 63
  pub next_is : counts.next < 2 ^ 63
