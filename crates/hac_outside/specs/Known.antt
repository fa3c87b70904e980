-- What is said of contents that may not be known.
use Rattle.std.specs.Prelude.{⊤, None, Some}
use Rattle.std.specs.declared.option.Option.{Option}

-- this holds of what was there before and what is there now, where it is known; what was known still is
abbrev pub Known : {A B : Type 0} → (A → B → Type 0) → Option A → Option B → Type 0
Known Says None new = ⊤
Known Says (Some old) None = ⊥
Known Says (Some old) (Some new) = Says old new
