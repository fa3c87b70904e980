-- What is seen of spaces, and what a call does to it.
use Rattle.std.specs.Prelude.{◌≡◌, ◌⊎◌, ℕ, Bool, true, false, if◌then◌else◌, not, List, [], map}
use Rattle.std.specs.Prelude.{◌∷◌, ◌++◌, IfSome, Option, Some, Result, Ok, Err}
use Rattle.std.specs.List.{list_any}
use Rattle.std.specs.Map.{lookup}
use Rattle.std.specs.Option.{option_and_then, option_map}
use Rattle.std.specs.Str.{bytes_eq}
use Rattle.hac_outside.specs.Calls.{next_number}
use Rattle.hac_outside.specs.Causes.{ReportsFault}
use Rattle.hac_model.specs.Spaces.Catalogue.{Document, catalogue}
use Rattle.sem_mounts.specs.declared.faults.AttachFault.{AttachFault}
use Rattle.sem_mounts.specs.declared.faults.AttachFault.TheVariants as attach
use Rattle.sem_mounts.specs.declared.faults.SpaceFault.{SpaceFault}
use Rattle.sem_mounts.specs.declared.faults.SpaceFault.TheVariants as space

-- what spaces tell of their contents: the bytes of the files, the documents of the spaces that are
-- attached, and with
-- which names and files `attach` was called
pub record Contents : Type 0 where
  pub files : List (List ℕ × List ℕ)
  pub spaces : List (List ℕ × List Document)
  pub calls : List (List ℕ × List ℕ)

-- the names of the spaces that are attached, the contents if they are told, and how many faults
-- there were
pub record SpacesSeen : Type 0 where
  pub attached : List (List ℕ)
  pub contents : Option Contents
  pub faults : ℕ

-- one of the entries has the name
abbrev pub has_entry : {X : Type 0} → List (List ℕ × X) → List ℕ → Bool
has_entry entries name = list_any (bytes_eq name) (map (λ entry. entry.0) entries)

-- a space of this name is attached
abbrev pub is_attached : SpacesSeen → List ℕ → Bool
is_attached spaces name = list_any (bytes_eq name) spaces.attached

-- the documents of the space of this name, if they are told
abbrev pub documents_of : SpacesSeen → List ℕ → Option (List Document)
documents_of spaces name =
    option_and_then (λ contents. lookup (bytes_eq name) contents.spaces) spaces.contents

-- what the file of this name says, if there is one
abbrev pub file_says : Contents → List ℕ → Option (Result (List Document) ℕ)
file_says contents file = option_map catalogue (lookup (bytes_eq file) contents.files)

-- one more call of `attach`
abbrev pub with_call : Contents → List ℕ → List ℕ → Contents
with_call contents name file = record contents { calls = contents.calls ++ (name, file) ∷ [] }

-- one more space
abbrev pub with_space : Contents → List ℕ → List Document → Contents
with_space contents name documents =
    record contents { spaces = contents.spaces ++ (name, documents) ∷ [] }

-- why nothing was attached, and what the call leaves of the contents
abbrev pub Refuses : List ℕ → List ℕ → AttachFault → Contents → Contents → Type 0
Refuses name file (attach.BadCatalogue line) old new =
    (file_says old file ≡ Some (Err line)) × (new ≡ with_call old name file)
Refuses name file attach.Failed old new = new ≡ with_call old name file
Refuses name file attach.Memory old new = (new ≡ with_call old name file) ⊎ (new ≡ old)

-- the space has the documents that its file says, or the call was refused
abbrev pub Attaches : {A : Type 0} → List ℕ → List ℕ → Result A AttachFault → Contents → Contents →
    Type 0
Attaches name file (Ok _) old new =
    (documents : List Document) × (file_says old file ≡ Some (Ok documents))
    × (new ≡ with_space (with_call old name file) name documents)
Attaches name file (Err fault) old new = Refuses name file fault old new

-- the call failed by a fault of the outside
abbrev pub is_attach_failed : {A : Type 0} → Result A AttachFault → Bool
is_attach_failed (Err attach.Failed) = true
is_attach_failed other = false

-- a question failed
abbrev pub is_failed : {A : Type 0} → Result A SpaceFault → Bool
is_failed (Err space.Failed) = true
is_failed other = false

-- the question was to no space
abbrev pub is_absent : {A : Type 0} → Result A SpaceFault → Bool
is_absent (Err space.Absent) = true
is_absent other = false

-- a call that failed is one fault more, and any other none
abbrev pub CountsFault : Bool → ℕ → ℕ → Type 0
CountsFault failed before now =
    ReportsFault failed before now × (now ≡ (if failed then next_number before else before))

-- the spaces were asked: all is as before but the faults, of which a failure is one; and the
-- question was to no space
-- exactly where none of this name is attached
pub record AreAsked {A : Type 0} (old new : SpacesSeen) (name : List ℕ) (result : Result A
    SpaceFault) : Type 0 where
  pub attached : new.attached ≡ old.attached
  pub contents : new.contents ≡ old.contents
  pub absent : is_absent result ≡ not (is_attached old name)
  pub cause : CountsFault (is_failed result) old.faults new.faults

-- this is what the documents of the space say, if they are told
abbrev pub IsSaid : {A : Type 0} → SpacesSeen → List ℕ → (List Document → A) → A → Type 0
IsSaid spaces name says answer =
    IfSome (documents_of spaces name) (λ documents. answer ≡ says documents)
