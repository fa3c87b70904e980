-- How deep it goes below an entry.
use Rattle.std.specs.Prelude.{◌≡◌, ℕ, zero, suc, Bool, false, ◌&&◌, not, is_some, map, IsTrue}
use Rattle.std.specs.List.{list_all}
use Rattle.hac_model.specs.Tree.Events.{is_empty_at, is_inside}
use Rattle.hac_model.specs.Tree.Listing.{children}
use Rattle.hac_model.specs.Tree.{entry_at, is_directory_at, is_mount_at}
use Rattle.hac_model.specs.declared.states.State.{State}

-- at most this many names lead from an entry to anything below it. A mount counts one more, for documents that may come.
abbrev pub is_shallow : ℕ → State → ℕ → Bool
is_shallow zero s dir = is_empty_at s.entries dir && not (is_mount_at s.entries dir)
is_shallow (suc names) s dir = list_all (is_shallow names s) (map (λ child. child.number) (children s dir))

-- an entry may go to a directory
pub record GoesTo (s : State) (entry dir : ℕ) : Type 0 where
  pub there : IsTrue (is_some (entry_at s.entries entry))
  pub directory : IsTrue (is_directory_at s.entries dir)
  pub outside : is_inside s dir entry ≡ false
