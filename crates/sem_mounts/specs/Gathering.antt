-- What is asked of spaces, what their documents answer, and how the asking ends.
use Rattle.std.specs.Prelude.{◌≡◌, ⊤, ℕ, Bool, true, false, not, IfNone, IfSome, IsTrue, List, []}
use Rattle.std.specs.Prelude.{length, Option, None, Some, Result, Ok, Err}
use Rattle.std.specs.List.{find, list_any, take_while}
use Rattle.std.specs.Str.{bytes_eq}
use Rattle.hac_model.specs.declared.spaces.Answers.{Answers}
use Rattle.hac_model.specs.declared.spaces.Asks.{Asks}
use Rattle.hac_model.specs.Spaces.Answering.{AreRisingNames, answers_of}
use Rattle.sem_mounts.specs.Seen.{CountsFault, SpacesSeen, is_attached}
use Rattle.sem_mounts.specs.declared.faults.SpaceFault.{SpaceFault}
use Rattle.sem_mounts.specs.declared.faults.SpaceFault.TheVariants as space
use Rattle.sem_mounts.specs.declared.gathering.GatherFault.{GatherFault}
use Rattle.sem_mounts.specs.declared.gathering.GatherFault.TheVariants as gather

-- the answers are those of the documents, if these are told; else the list still rises, and there is one answer to each
-- question
pub record AreAnswers (spaces : SpacesSeen) (asks : Asks) (answers : Answers) : Type 0 where
  pub rising : AreRisingNames answers.list
  pub unlisted : IfNone asks.list (answers.list ≡ [])
  pub found : length answers.found ≡ length asks.searches
  pub unfetched : IfNone asks.fetch (answers.fetched ≡ None)
  pub said : IfSome spaces.contents (λ contents. answers ≡ answers_of contents.spaces asks)

-- the first of these spaces that isn't attached
abbrev pub first_absent : SpacesSeen → List (List ℕ) → Option (List ℕ)
first_absent spaces asked = find (λ name. not (is_attached spaces name)) asked

-- why a question to the space of this name got no answer
abbrev pub gather_fault : List ℕ → SpaceFault → GatherFault
gather_fault name space.Failed = gather.SpaceFault name
gather_fault name space.Absent = gather.NoSpace name
gather_fault name space.Memory = gather.Memory

-- a space failed
abbrev pub is_space_fault : {A : Type 0} → Result A GatherFault → Bool
is_space_fault (Err (gather.SpaceFault name)) = true
is_space_fault other = false

-- how questions to these spaces end: each has an answer, as all of them are attached; or the first that isn't attached is
-- named, or one before it that failed; or memory ran out
abbrev pub Ends : {A : Type 0} → SpacesSeen → List (List ℕ) → Result A GatherFault → Type 0
Ends spaces asked (Ok answers) = first_absent spaces asked ≡ None
Ends spaces asked (Err (gather.NoSpace name)) = first_absent spaces asked ≡ Some name
Ends spaces asked (Err (gather.SpaceFault name)) =
    IsTrue (list_any (bytes_eq name) (take_while (is_attached spaces) asked))
Ends spaces asked (Err gather.Memory) = ⊤

-- these spaces were asked in their order up to the first fault: all is as before but the faults. Only the last question may
-- have failed: its failure is the one fault more, and no other question failed, neither before it nor behind
pub record AreGathered {A : Type 0} (old new : SpacesSeen) (asked : List (List ℕ)) (result : Result A GatherFault) : Type 0 where
  pub attached : new.attached ≡ old.attached
  pub contents : new.contents ≡ old.contents
  pub cause : CountsFault (is_space_fault result) old.faults new.faults
  pub ends : Ends old asked result
