-- The runs of a list.
use Rattle.std.specs.Prelude.{◌≡◌, ◌≤◌, ℕ, List, ◌++◌, drop, length, take}
use Rattle.std.specs.List.{All}
use Rattle.tiered_list.specs.declared.runs.TheConstants.{MOST_RUNS, RUN}

-- a ring, read from a place on
abbrev pub turned : ℕ → List ℕ → List ℕ
turned head ring = drop head ring ++ take head ring

-- each run has as many numbers as the others
abbrev pub AreFull : List (List ℕ) → Type 0
AreFull runs = All (λ run. length run ≡ RUN) runs

-- so few runs that their numbers can be counted
abbrev pub AreFew : List (List ℕ) → Type 0
AreFew runs = length runs ≤ MOST_RUNS
