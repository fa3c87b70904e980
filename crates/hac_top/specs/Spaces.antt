-- What a run makes of the spaces that its words name.
use Rattle.std.specs.Prelude.{◌≡◌, ◌⊎◌, ℕ, ◌+◌, List, ◌∷◌, ◌++◌, length, map, Option, None, Some, Result, Ok, Err}
use Rattle.std.specs.List.{AllByRecursion}
use Rattle.std.specs.Option.{option_and_then}
use Rattle.hac_model.specs.Script.CommandLine.{Space}
use Rattle.hac_outside.specs.Causes.{Rose}
use Rattle.hac_outside.specs.Known.{Known}
use Rattle.hac_model.specs.Spaces.Catalogue.{Document}
use Rattle.sem_mounts.specs.Seen.{Contents, CountsFault, Refuses, SpacesSeen, file_says, is_attach_failed}
use Rattle.sem_mounts.specs.declared.faults.AttachFault.{AttachFault}
use Rattle.sem_mounts.specs.declared.faults.AttachFault.TheVariants as attach
use Rattle.hac_top.specs.Asking.{StayAttached}
use Rattle.hac_top.specs.declared.status.Status.{Status}
use Rattle.hac_top.specs.declared.status.Status.TheVariants.{BadSpace, Memory}

-- the names of spaces
abbrev pub names_of : List Space → List (List ℕ)
names_of = map (λ space. space.0)

-- the name of a space with what its file says
abbrev pub said_by_file : Contents → Space → List ℕ × Option (Result (List Document) ℕ)
said_by_file contents space = (space.0, file_says contents space.1)

-- the name of a space with what a catalogue of its documents says
abbrev pub said_by_documents : List ℕ × List Document → List ℕ × Option (Result (List Document) ℕ)
said_by_documents space = (space.0, Some (Ok space.1))

-- each file is a catalogue, of the documents that the space of its name has
abbrev pub AreCatalogues : Contents → List Space → List (List ℕ × List Document) → Type 0
AreCatalogues contents files spaces = map (said_by_file contents) files ≡ map said_by_documents spaces

-- Each file was attached under its name: each is a catalogue, the spaces are those of before and then these, each with
-- the documents of its file, and `attach` was called with each name and file, in their order.
pub record AttachesAll (files : List Space) (old new : Contents) : Type 0 where
  pub added : List (List ℕ × List Document)
  pub catalogues : AreCatalogues old files added
  pub files_are : new.files ≡ old.files
  pub spaces_are : new.spaces ≡ old.spaces ++ added
  pub calls_are : new.calls ≡ old.calls ++ files

-- each space is attached, with the documents of its file, and nothing failed
pub record HasAttached (files : List Space) (old new : SpacesSeen) : Type 0 where
  pub names : new.attached ≡ old.attached ++ names_of files
  pub contents : Known (AttachesAll files) old.contents new.contents
  pub faults : new.faults ≡ old.faults

-- how a run ends whose space of this number, from 1, isn't attached
abbrev pub attach_status : ℕ → AttachFault → Status
attach_status which attach.Failed = BadSpace which None
attach_status which (attach.BadCatalogue line) = BadSpace which (Some line)
attach_status which attach.Memory = Memory

-- those in front were attached, and the next one was refused
abbrev pub AttachesUpTo : List Space → Space → AttachFault → Contents → Contents → Type 0
AttachesUpTo front space fault old new =
    (between : Contents) × AttachesAll front old between × Refuses space.0 space.1 fault between new

-- The spaces in front of one were attached, and that one wasn't: the status has its number, and the bad line of its file
-- or none where the outside failed. That failure is counted, and there was no other.
pub record StopsAttaching (files : List Space) (old new : SpacesSeen) (status : Status) : Type 0 where
  pub front : List Space
  pub space : Space
  pub behind : List Space
  pub files_are : files ≡ front ++ space ∷ behind
  pub fault : AttachFault
  pub status_is : status ≡ attach_status (length front + 1) fault
  pub names : new.attached ≡ old.attached ++ names_of front
  pub contents : Known (AttachesUpTo front space fault) old.contents new.contents
  pub cause : CountsFault (is_attach_failed {A = Unit {0}} (Err fault)) old.faults new.faults

-- each space is attached, with the documents of its file; since then they were only asked
abbrev pub Serves : List Space → SpacesSeen → SpacesSeen → Type 0
Serves files old new = (attached : SpacesSeen) × HasAttached files old attached × StayAttached attached new

-- What a run leaves of its spaces, given what it is that nothing else was touched: each of those that the words name is
-- attached. Where one of them can't be, and where memory runs out before all are, nothing else was touched.
abbrev pub LeavesSpaces : Status → List Space → SpacesSeen → SpacesSeen → (untouched : Type 0) → Type 0
LeavesSpaces (BadSpace which line) files old new untouched = StopsAttaching files old new (BadSpace which line) × untouched
LeavesSpaces Memory files old new untouched = (((new ≡ old) ⊎ StopsAttaching files old new Memory) × untouched) ⊎ Serves files old new
LeavesSpaces other files old new untouched = Serves files old new

-- the file is a catalogue, as the spaces tell
abbrev pub IsCatalogue : SpacesSeen → List ℕ → Type 0
IsCatalogue spaces file =
    (documents : List Document) × (option_and_then (λ contents. file_says contents file) spaces.contents ≡ Some (Ok documents))

-- each file is a catalogue, and no call of the spaces failed; where there is no file, nothing is asked of them
abbrev pub CanAttach : List Space → SpacesSeen → SpacesSeen → Type 0
CanAttach files old new = AllByRecursion (λ file. IsCatalogue old file.1 × (Rose old.faults new.faults → ⊥)) files
