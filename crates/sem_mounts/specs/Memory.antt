-- What spaces in memory are seen as, and which of their calls fail.
use Rattle.std.specs.Prelude.{◌≡◌, ◌⊎◌, ◌↔◌, ℕ, Bool, true, false, if◌then◌else◌, Contains, IsFalse}
use Rattle.std.specs.Prelude.{IsTrue, List, map, Some, Result, Err}
use Rattle.hac_outside.specs.Calls.{next_number}
use Rattle.sem_mounts.specs.Seen.{Contents, SpacesSeen, has_entry, is_attached}
use Rattle.sem_mounts.specs.declared.faults.AttachFault.{AttachFault}
use Rattle.sem_mounts.specs.declared.faults.AttachFault.TheVariants as attach

-- their contents, the numbers of the calls that are to fail, and the calls and the faults so far
pub record MemoryState : Type 0 where
  pub contents : Contents
  pub failing : List ℕ
  pub made : ℕ
  pub faults : ℕ

-- they tell all
abbrev pub seen_of : MemoryState → SpacesSeen
seen_of spaces = record {
  attached = map (λ space. space.0) spaces.contents.spaces;
  contents = Some spaces.contents;
  faults = spaces.faults;
}

-- the number of the next call is one that is to fail
abbrev pub IsFailing : MemoryState → Type 0
IsFailing spaces = Contains spaces.failing (next_number spaces.made)

-- `attach` has a reason to fail: its number, or a file that is missing
abbrev pub FailsToAttach : MemoryState → List ℕ → Type 0
FailsToAttach spaces file = IsFailing spaces ⊎ IsFalse (has_entry spaces.contents.files file)

-- a question has a reason to fail: its number, where the space is attached
abbrev pub FailsToAnswer : MemoryState → List ℕ → Type 0
FailsToAnswer spaces name = IsFailing spaces × IsTrue (is_attached (seen_of spaces) name)

-- `attach` found no memory
abbrev pub is_out_of_memory : {A : Type 0} → Result A AttachFault → Bool
is_out_of_memory (Err attach.Memory) = true
is_out_of_memory other = false

-- a call has been counted, and a fault where it failed, as it does exactly where it is to; the plan
-- of the spaces stays
pub record IsNextCall (old new : MemoryState) (failed : Bool) (Fails : Type 0) : Type 0 where
  pub fails : IsTrue failed ↔ Fails
  pub failing : new.failing ≡ old.failing
  pub made : new.made ≡ next_number old.made
  pub faults : new.faults ≡ (if failed then next_number old.faults else old.faults)
