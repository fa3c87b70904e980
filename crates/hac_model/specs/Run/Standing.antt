-- What a command whose paths were followed refers to.
use Rattle.std.specs.Prelude.{◌≡◌, ⊤, ℕ, Bool, true, false, ◌&&◌, not, None, IsTrue}
use Rattle.hac_model.specs.Run.Resolving.{mount_of}
use Rattle.hac_model.specs.Tree.Events.{is_vacant, may_ask}
use Rattle.hac_model.specs.Tree.Limits.{is_text}
use Rattle.hac_model.specs.Script.PathWords.{is_target}
use Rattle.hac_model.specs.Script.SpaceNames.{is_space_name}
use Rattle.hac_model.specs.Tree.{is_directory_at, is_document_at, is_holder_at, is_live, is_symlink_at}
use Rattle.hac_model.specs.declared.places.Place.{Place}
use Rattle.hac_model.specs.declared.places.Place.TheVariants.{There, Free}
use Rattle.hac_model.specs.declared.resolved.Resolved.{Resolved}
use Rattle.hac_model.specs.declared.resolved.Resolved.TheVariants.{Mkdir, Rmdir, Write, Cat, Ls, Cd, Pwd, Mv, Rm, Ln, Readlink, Smkdir, Setq, Unq, Query, Sls, Sln, Srm, Sforget, Find, Smount, Ssync, Sumount, Index, Tick, Counts, Checkpoint}
use Rattle.hac_model.specs.declared.states.State.{State}

-- the root or an entry has the number, and it isn't a symbolic link where the last name of its path was followed
abbrev pub is_there : State → Bool → ℕ → Bool
is_there s follow number = is_live s.entries number && not (follow && is_symlink_at s.entries number)

-- the same, and it isn't a document
abbrev pub is_own : State → Bool → ℕ → Bool
is_own s follow number = is_there s follow number && not (is_document_at s.entries number)

-- the entry or the root that was found is in the state, or the directory has no entry of the name
abbrev pub StandsAt : State → Bool → Place → Type 0
StandsAt s follow (There number) = IsTrue (is_there s follow number)
StandsAt s follow (Free dir name) = IsTrue (is_vacant s dir name)

-- the same, and it isn't in a mount
abbrev pub IsSlot : State → Bool → Place → Type 0
IsSlot s follow found = StandsAt s follow found × (mount_of s found ≡ None)

-- an item and a directory are in the state
abbrev pub AreThere : State → ℕ → ℕ → Type 0
AreThere s item dir = IsTrue (is_there s true item) × IsTrue (is_directory_at s.entries dir)

-- all that the command refers to is in the state, its text and its query are as large as they may be, and its session and
-- its space may have their names
abbrev pub AllStand : State → Resolved → Type 0
AllStand s (Mkdir place) = IsSlot s true place
AllStand s (Rmdir dir) = IsTrue (is_holder_at s.entries dir)
AllStand s (Write place text) = IsSlot s true place × IsTrue (is_text text)
AllStand s (Cat entry) = IsTrue (is_there s true entry)
AllStand s (Ls dir) = IsTrue (is_directory_at s.entries dir)
AllStand s (Cd session dir) = IsTrue (is_space_name session) × IsTrue (is_directory_at s.entries dir)
AllStand s (Pwd dir) = IsTrue (is_directory_at s.entries dir)
AllStand s (Mv entry place) = IsTrue (is_own s false entry) × IsSlot s false place
AllStand s (Rm entry) = IsTrue (is_own s false entry)
AllStand s (Ln place target) = IsSlot s false place × IsTrue (is_target target)
AllStand s (Readlink entry) = IsTrue (is_there s false entry)
AllStand s (Smkdir place query) = IsSlot s true place × IsTrue (may_ask s query)
AllStand s (Setq dir query) = IsTrue (is_holder_at s.entries dir) × IsTrue (may_ask s query)
AllStand s (Unq dir) = IsTrue (is_directory_at s.entries dir)
AllStand s (Query dir) = IsTrue (is_directory_at s.entries dir)
AllStand s (Sls dir) = IsTrue (is_directory_at s.entries dir)
AllStand s (Sln item dir) = AreThere s item dir
AllStand s (Srm item dir) = AreThere s item dir
AllStand s (Sforget item dir) = AreThere s item dir
AllStand s (Find query) = IsTrue (may_ask s query)
AllStand s (Smount place space) = IsSlot s true place × IsTrue (is_space_name space)
AllStand s (Ssync mount) = IsTrue (is_directory_at s.entries mount)
AllStand s (Sumount mount) = IsTrue (is_directory_at s.entries mount)
AllStand s Index = ⊤
AllStand s (Tick steps) = ⊤
AllStand s Counts = ⊤
AllStand s Checkpoint = ⊤
