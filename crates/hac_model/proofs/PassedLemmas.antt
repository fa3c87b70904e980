-- Which limits an event can pass.
use Rattle.std.proofs.Common.{◌≡◌, ℕ, ◌≤◌, true, false, ap, ◌∙◌, arith}
use Rattle.std.specs.Prelude.{nat_lt, filter, Some, None}
use Rattle.std.specs.Option.{option_map_or}
use Rattle.std.specs.List.{AllByRecursion}
use Rattle.std.proofs.lemmas.Bool.{ltb-false, le-ltb}
use Rattle.hac_model.specs.Tree.Events.{apply, changed_at, edited, indexed, is_empty_at, next_dirty, removed}
use Rattle.hac_model.specs.Tree.Limits.{directory_count, passed_limit, text_size, file_bytes}
use Rattle.hac_model.specs.Tree.{is_directory, is_linkable, is_mount, is_queried, is_symlink}
use Rattle.hac_model.specs.Tree.Valid.{IsLayout}
use Rattle.hac_model.specs.declared.events.Event.TheVariants.{Rmdir, Step}
use Rattle.hac_model.specs.declared.limits.TheConstants.{SEMANTICS_LIMIT, ITEMS_LIMIT}
use Rattle.hac_model.specs.declared.states.Body.{Body}
use Rattle.hac_model.specs.declared.states.State.{State}
use Rattle.hac_model.proofs.ChangeLemmas.{is_kept}
use Rattle.hac_model.proofs.CountLemmas.{directory_count-edited, directory_count-is, item_count-edited, measured-fewer, mount_count-edited, one_if, semantic_count-edited, symlink_count-edited, text_size-indexed}
use Rattle.hac_model.proofs.DepthLemmas.{paths-edited, paths-removed}
use Rattle.hac_model.proofs.LimitLemmas.{IsWithinLimits, limits-none, limits-within}
use Rattle.hac_model.proofs.ValidLemmas.{bare-all}
use Rattle.hac_model.specs.Versions.{dirs_limit, mounts_limit, symlinks_limit}
use Rattle.hac_model.proofs.KindLemmas.{KeepsKind, keeps-role, kind-indexed, keeps-mount}

-- a smaller count is within the limit too
smaller : (limit m n : ℕ) → m ≤ n → nat_lt limit n ≡ false → nat_lt limit m ≡ false
smaller limit m n less within = let high : n ≤ limit = ltb-false limit n within in le-ltb limit m (omega arith)

-- an edit that keeps kinds, and makes no text longer, exceeds no limit
pub edited-passes : (s : State) (n : ℕ) (edit : Body → Body) → IsLayout s → KeepsKind edit → text_size (changed_at s n (edited edit)).entries ≤ text_size s.entries → passed_limit (changed_at s n (edited edit)) ≡ None
edited-passes s n edit h keeps lighter =
    let old : IsWithinLimits s = limits-within s h.limits in
    limits-none (changed_at s n (edited edit)) (record {
      texts = smaller _ _ _ lighter old.texts;
      dirs = ap (λ (k : ℕ). nat_lt (dirs_limit s.version) k) (directory_count-edited s n edit keeps) ∙ old.dirs;
      semantics = ap (λ (k : ℕ). nat_lt SEMANTICS_LIMIT k) (semantic_count-edited s n edit keeps) ∙ old.semantics;
      mounts = ap (λ (k : ℕ). nat_lt (mounts_limit s.version) k) (mount_count-edited s n edit keeps) ∙ old.mounts;
      symlinks = ap (λ (k : ℕ). nat_lt (symlinks_limit s.version) k) (symlink_count-edited s n edit keeps) ∙ old.symlinks;
      paths = paths-edited s.entries n edit (keeps-mount edit (keeps-role edit keeps)) ∙ old.paths;
      items = ap (λ (k : ℕ). nat_lt ITEMS_LIMIT k) (item_count-edited s n edit keeps) ∙ old.items;
      numbers = old.numbers;
    })

-- a step exceeds no limit
pub step-passes : (s : State) → IsLayout s → passed_limit (apply s Step) ≡ None
step-passes s h = elim (next_dirty s.entries) as (λ o. passed_limit (option_map_or (λ file. changed_at s file (edited indexed)) o s) ≡ None) [
  | None ↦ h.limits
  | Some file ↦ edited-passes s file indexed h kind-indexed (text_size-indexed s file)
]

-- nor does it once an empty entry is removed
pub removed-passes : (s : State) (n : ℕ) → IsLayout s → AllByRecursion (λ e. n ≡ e.parent → ⊥) s.entries → passed_limit (removed s n) ≡ None
removed-passes s n h bare =
    let old : IsWithinLimits s = limits-within s h.limits in
    limits-none (removed s n) (record {
      texts = smaller _ _ _ (measured-fewer file_bytes n s.entries) old.texts;
      dirs = smaller (dirs_limit s.version) (directory_count (filter (is_kept n) s.entries)) (directory_count s.entries) (omega (arith, measured-fewer (one_if is_directory) n s.entries, directory_count-is s.entries, directory_count-is (filter (is_kept n) s.entries))) old.dirs;
      semantics = smaller _ _ _ (measured-fewer (one_if is_queried) n s.entries) old.semantics;
      mounts = smaller _ _ _ (measured-fewer (one_if is_mount) n s.entries) old.mounts;
      symlinks = smaller _ _ _ (measured-fewer (one_if is_symlink) n s.entries) old.symlinks;
      paths = paths-removed s.entries n bare old.paths;
      items = smaller _ _ _ (measured-fewer (one_if is_linkable) n s.entries) old.items;
      numbers = old.numbers;
    })

pub bare-passes : (s : State) (dir : ℕ) → IsLayout s → is_empty_at s.entries dir ≡ true → passed_limit (apply s (Rmdir dir)) ≡ None
bare-passes s dir h bare = removed-passes s dir h (bare-all s.entries dir bare)
