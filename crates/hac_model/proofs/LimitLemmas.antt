-- A state that exceeds no limit is within each of them.
use Rattle.std.proofs.Common.{◌≡◌, ℕ, ◌≤◌, arith, Bool, true, false, cond, refl, ap, ◌∙◌, List, [], ◌∷◌, ◌++◌}
use Rattle.std.specs.Prelude.{◌&&◌, nat_lt, Option, Some, None, is_none}
use Rattle.hac_model.specs.Tree.Limits.{are_paths_short, directory_count, first_passed, item_count, long_paths, mount_count, passed_limit, semantic_count, symlink_count, text_size}
use Rattle.hac_model.specs.declared.limits.Limit.{Limit}
use Rattle.hac_model.specs.declared.limits.TheConstants.{TEXTS_LIMIT, DIRS_LIMIT, SEMANTICS_LIMIT, MOUNTS_LIMIT, SYMLINKS_LIMIT, ITEMS_LIMIT, NUMBERS_LIMIT}
use Rattle.hac_model.specs.declared.limits.LimitWord.{LimitWord}
use Rattle.hac_model.specs.declared.states.Entry.{Entry}
use Rattle.hac_model.specs.declared.states.State.{State}
use Rattle.std.proofs.lemmas.Bool.{le-ltb, ltb-false}
use Rattle.hac_model.specs.Versions.{dirs_limit, mounts_limit, numbers_limit, symlinks_limit}
use Rattle.hac_model.specs.declared.versions.Version.{Version}
use Rattle.hac_model.specs.declared.versions.Version.TheVariants.{One, Two}

-- the state passes none of the limits
pub record IsWithinLimits (s : State) : Type 0 where
  pub texts : nat_lt TEXTS_LIMIT (text_size s.entries) ≡ false
  pub dirs : nat_lt (dirs_limit s.version) (directory_count s.entries) ≡ false
  pub semantics : nat_lt SEMANTICS_LIMIT (semantic_count s.entries) ≡ false
  pub mounts : nat_lt (mounts_limit s.version) (mount_count s.entries) ≡ false
  pub symlinks : nat_lt (symlinks_limit s.version) (symlink_count s.entries) ≡ false
  pub paths : are_paths_short s.entries ≡ true
  pub items : nat_lt ITEMS_LIMIT (item_count s.entries) ≡ false
  pub numbers : nat_lt (numbers_limit s.version) s.next ≡ false

-- a limit that isn't passed, and those behind it
behind : (b : Bool) (word : LimitWord) (rest : Option LimitWord) → cond b (Some word) rest ≡ None → (b ≡ false) × (rest ≡ None)
behind true word rest h = absurd cc
behind false word rest h = (refl, h)

first-behind : (limit : Limit) (limits : List Limit) → first_passed (limit ∷ limits) ≡ None → (nat_lt limit.most limit.count ≡ false) × (first_passed limits ≡ None)
unfolding first_passed
first-behind limit limits h = behind (nat_lt limit.most limit.count) limit.word (first_passed limits) h

pub first-before : (limit : Limit) (limits : List Limit) → nat_lt limit.most limit.count ≡ false → first_passed limits ≡ None → first_passed (limit ∷ limits) ≡ None
unfolding first_passed
first-before limit limits h rest = ap (λ (b : Bool). cond b (Some limit.word) (first_passed limits)) h ∙ rest

pub none-passed : first_passed [] ≡ None
unfolding first_passed
none-passed = refl

-- no path is long where all are short
pub short-paths : (es : List Entry) → nat_lt 0 (long_paths es) ≡ false → are_paths_short es ≡ true
short-paths es h = elim (are_paths_short es) as (λ b. nat_lt 0 (cond b 0 1) ≡ false → b ≡ true) [ true ↦ (λ h. refl) | false ↦ (λ h. absurd cc) ] h

pub paths-short : (es : List Entry) → are_paths_short es ≡ true → nat_lt 0 (long_paths es) ≡ false
paths-short es h = ap (λ (b : Bool). nat_lt 0 (cond b 0 1)) h

pub limits-within : (s : State) → passed_limit s ≡ None → IsWithinLimits s
unfolding passed_limit
limits-within s h =
    let texts = first-behind _ _ h in
    let dirs = first-behind _ _ texts.1 in
    let semantics = first-behind _ _ dirs.1 in
    let mounts = first-behind _ _ semantics.1 in
    let symlinks = first-behind _ _ mounts.1 in
    let paths = first-behind _ _ symlinks.1 in
    let items = first-behind _ _ paths.1 in
    let numbers = first-behind _ _ items.1 in
    record { texts = texts.0; dirs = dirs.0; semantics = semantics.0; mounts = mounts.0; symlinks = symlinks.0; paths = short-paths s.entries paths.0; items = items.0; numbers = numbers.0 }

pub limits-none : (s : State) → IsWithinLimits s → passed_limit s ≡ None
unfolding passed_limit
limits-none s h =
    first-before _ _ h.texts
    (first-before _ _ h.dirs
    (first-before _ _ h.semantics
    (first-before _ _ h.mounts
    (first-before _ _ h.symlinks
    (first-before _ _ (paths-short s.entries h.paths)
    (first-before _ _ h.items
    (first-before _ _ h.numbers none-passed)))))))

-- What is within the limit of some version is within the greatest of any.

-- a count within a limit is within a greater one
smaller_limit : (one two count : ℕ) → one ≤ two → nat_lt one count ≡ false → nat_lt two count ≡ false
smaller_limit one two count less within = let high : count ≤ one = ltb-false one count within in le-ltb two count (omega (arith, less, high))

module _ (s : State) (within : IsWithinLimits s) where
  pub most-dirs : nat_lt DIRS_LIMIT (directory_count s.entries) ≡ false
  most-dirs = most s.version within.dirs
    where
      most : (version : Version) → nat_lt (dirs_limit version) (directory_count s.entries) ≡ false → nat_lt DIRS_LIMIT (directory_count s.entries) ≡ false
      most One h = smaller_limit 10000 DIRS_LIMIT (directory_count s.entries) (omega arith) h
      most Two h = h

  pub most-mounts : nat_lt MOUNTS_LIMIT (mount_count s.entries) ≡ false
  most-mounts = most s.version within.mounts
    where
      most : (version : Version) → nat_lt (mounts_limit version) (mount_count s.entries) ≡ false → nat_lt MOUNTS_LIMIT (mount_count s.entries) ≡ false
      most One h = smaller_limit 16 MOUNTS_LIMIT (mount_count s.entries) (omega arith) h
      most Two h = h

  pub most-symlinks : nat_lt SYMLINKS_LIMIT (symlink_count s.entries) ≡ false
  most-symlinks = most s.version within.symlinks
    where
      most : (version : Version) → nat_lt (symlinks_limit version) (symlink_count s.entries) ≡ false → nat_lt SYMLINKS_LIMIT (symlink_count s.entries) ≡ false
      most One h = smaller_limit 10000 SYMLINKS_LIMIT (symlink_count s.entries) (omega arith) h
      most Two h = h

  pub most-numbers : nat_lt NUMBERS_LIMIT s.next ≡ false
  most-numbers = most s.version within.numbers
    where
      most : (version : Version) → nat_lt (numbers_limit version) s.next ≡ false → nat_lt NUMBERS_LIMIT s.next ≡ false
      most One h = smaller_limit 4294967295 NUMBERS_LIMIT s.next (omega arith) h
      most Two h = h

-- none of two lists is passed where none of either is
pub none-append : (xs ys : List Limit) → is_none (first_passed (xs ++ ys)) ≡ (is_none (first_passed xs) && is_none (first_passed ys))
unfolding first_passed
none-append [] ys = refl
none-append (x ∷ xs) ys =
    elim (nat_lt x.most x.count) as (λ b. is_none (cond b (Some x.word) (first_passed (xs ++ ys))) ≡ (is_none (cond b (Some x.word) (first_passed xs)) && is_none (first_passed ys))) [
      | true ↦ refl
      | false ↦ none-append xs ys
    ]
