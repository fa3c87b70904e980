-- The limits that depend on the version of what is live in a store.
use Rattle.std.specs.Prelude.{ℕ}
use Rattle.hac_model.specs.declared.limits.TheConstants.{DIRS_LIMIT, DOCS_LIMIT, MOUNTS_LIMIT, NUMBERS_LIMIT, SESSIONS_LIMIT, STORE_LIMIT, SYMLINKS_LIMIT}
use Rattle.hac_model.specs.declared.versions.Version.{Version}
use Rattle.hac_model.specs.declared.versions.Version.TheVariants.{One, Two}

-- the most directories of any kind, with the root
abbrev pub dirs_limit : Version → ℕ
dirs_limit One = 10000
dirs_limit Two = DIRS_LIMIT

abbrev pub mounts_limit : Version → ℕ
mounts_limit One = 16
mounts_limit Two = MOUNTS_LIMIT

abbrev pub symlinks_limit : Version → ℕ
symlinks_limit One = 10000
symlinks_limit Two = SYMLINKS_LIMIT

-- the most sessions that stand elsewhere than in the root
abbrev pub sessions_limit : Version → ℕ
sessions_limit One = 64
sessions_limit Two = SESSIONS_LIMIT

-- the most documents of one mount
abbrev pub docs_limit : Version → ℕ
docs_limit One = 10000
docs_limit Two = DOCS_LIMIT

-- the greatest number that the next entry may take
abbrev pub numbers_limit : Version → ℕ
numbers_limit One = 4294967295
numbers_limit Two = NUMBERS_LIMIT

-- the most bytes of a store, up to the closed gate behind its log
abbrev pub store_limit : Version → ℕ
store_limit One = 4294967296
store_limit Two = STORE_LIMIT
