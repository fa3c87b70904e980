-- What a run is given from outside, beside its store and its script.
use Rattle.std.specs.Prelude.{ℕ, List, [], ◌∷◌, drop, Option, None}
use Rattle.hac_model.specs.Spaces.Answering.{Attached}
use Rattle.hac_model.specs.declared.spaces.Answers.{Answers}

-- The spaces that are attached. For each command in order the space that failed as the command asked it, where one did:
-- behind the end of the list none. And how many index steps follow each command by themselves.
pub record Given : Type 0 where
  pub spaces : List Attached
  pub faults : List (Option (List ℕ))
  pub steps : ℕ

-- no space is attached, and so many steps follow each command
abbrev pub ticking : ℕ → Given
ticking steps = record { spaces = []; faults = []; steps = steps }

-- no space is attached, and no step follows by itself
abbrev pub nothing_given : Given
nothing_given = ticking 0

-- these spaces are attached, none of them fails, and no step follows by itself
abbrev pub given_spaces : List Attached → Given
given_spaces spaces = record nothing_given { spaces = spaces }

-- the fault that the next command meets
abbrev pub next_fault : Given → Option (List ℕ)
next_fault given = first given.faults
  where
    first : List (Option (List ℕ)) → Option (List ℕ)
    first [] = None
    first (fault ∷ faults) = fault

-- what is given to the commands behind the first n
abbrev pub given_behind : ℕ → Given → Given
given_behind n given = record given { faults = drop n given.faults }

-- what spaces answer where nothing is asked
abbrev pub no_answers : Answers
no_answers = record { list = []; found = []; fetched = None }
