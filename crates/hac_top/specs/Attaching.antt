-- The names by which a run attaches the file of its store.
use Rattle.std.specs.Prelude.{◌≡◌, ◌⊎◌, ℕ, Bool, List, [], ◌∷◌, ◌++◌, Option, Some, None}
use Rattle.hac_model.specs.Script.CommandLine.{Options}
use Rattle.hac_top.specs.declared.status.Status.{Status}
use Rattle.hac_top.specs.declared.status.Status.TheVariants.{BadSpace, DiskFault, Memory}

-- the file was attached by the name of the store, to be made where a new store is asked for; nothing else was attached
abbrev pub AttachesStore : Option (List (List ℕ × Bool)) → Options → Option (List (List ℕ × Bool)) → Type 0
AttachesStore None options new = new ≡ None
AttachesStore (Some names) options new = new ≡ Some (names ++ (options.store, options.fresh) ∷ [])

-- the same, or nothing was attached
abbrev pub MayAttach : Option (List (List ℕ × Bool)) → Options → Option (List (List ℕ × Bool)) → Type 0
MayAttach old options new = (new ≡ old) ⊎ AttachesStore old options new

-- what a run leaves attached: the file of the store, unless a space couldn't be attached, the disk failed or memory ran
-- out
abbrev pub LeavesAttached : Status → Option (List (List ℕ × Bool)) → Options → Option (List (List ℕ × Bool)) → Type 0
LeavesAttached (BadSpace which line) old options new = new ≡ old
LeavesAttached DiskFault old options new = MayAttach old options new
LeavesAttached Memory old options new = MayAttach old options new
LeavesAttached other old options new = AttachesStore old options new
