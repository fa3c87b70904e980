-- What a run takes of the script that its source gives. It depends on the source alone.
use Rattle.std.specs.Prelude.{◌≡◌, ℕ, ◌+◌, ◌<◌, ◌≤◌, List, [], length, drop, Option, Some}
use Rattle.std.specs.Option.{IfSome}
use Rattle.hac_model.specs.declared.limits.TheConstants.{SCRIPT_LIMIT}
use Rattle.hac_top.specs.declared.status.Status.{Status}
use Rattle.hac_top.specs.declared.status.Status.TheVariants.{Done, SomeRefused, Usage, NotStore, BadSpace, TooLong, AlreadyStore}

-- all of the script was taken, which is within the limit
abbrev pub TakesAll : List ℕ → Option (List ℕ) → Type 0
TakesAll script left = (length script ≤ SCRIPT_LIMIT) × (left ≡ Some [])

-- the script is longer than a script may be, so much of it and one byte were taken
abbrev pub TakesTooMuch : List ℕ → Option (List ℕ) → Type 0
TakesTooMuch script left = (SCRIPT_LIMIT < length script) × (left ≡ Some (drop (SCRIPT_LIMIT + 1) script))

-- a part of the script was taken, the first bytes
abbrev pub TakesSome : List ℕ → Option (List ℕ) → Type 0
TakesSome script left = (count : ℕ) × (count ≤ SCRIPT_LIMIT + 1) × (left ≡ Some (drop count script))

-- how much of a script was taken, by how the run ended
abbrev pub TakesBy : Status → List ℕ → Option (List ℕ) → Type 0
TakesBy Done script left = TakesAll script left
TakesBy SomeRefused script left = TakesAll script left
TakesBy TooLong script left = TakesTooMuch script left
TakesBy Usage script left = left ≡ Some script
TakesBy (NotStore at) script left = left ≡ Some script
TakesBy AlreadyStore script left = left ≡ Some script
TakesBy (BadSpace which line) script left = left ≡ Some script
TakesBy other script left = TakesSome script left

-- the same, if the source tells what it has left
abbrev pub Takes : Status → Option (List ℕ) → Option (List ℕ) → Type 0
Takes status old new = IfSome old (λ script. TakesBy status script new)
