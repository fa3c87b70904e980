-- Names among numbers, given the name of each.
use Rattle.std.specs.Prelude.{ℕ, if◌then◌else◌, List, [], ◌∷◌, Option, Some, None, IsTrue}
use Rattle.std.specs.List.{AllByRecursion, prefix_len}
use Rattle.std.specs.Str.{bytes_eq}
use Rattle.hac_model.specs.Tree.Listing.{is_before}

-- how many of the first have names before this one
abbrev pub rank_in : (ℕ → List ℕ) → List ℕ → List ℕ → ℕ
rank_in names name numbers = prefix_len (λ number. is_before (names number) name) numbers

-- the first that has the name
abbrev pub first_named : (ℕ → List ℕ) → List ℕ → List ℕ → Option ℕ
first_named names [] name = None
first_named names (number ∷ numbers) name = if bytes_eq (names number) name then Some number else first_named names numbers name

-- the names of the numbers rise
abbrev pub NamesRise : (ℕ → List ℕ) → List ℕ → Type 0
NamesRise names [] = Unit {0}
NamesRise names (number ∷ numbers) = AllByRecursion (λ other. IsTrue (is_before (names number) (names other))) numbers × NamesRise names numbers
