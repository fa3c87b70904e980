-- Theorems over the definitions, each proved as the contract of a function of the module `laws`.
use Rattle.std.specs.Prelude.{ℕ, List}
use Rattle.hac_model.specs.Tree.Valid.{NumbersRise}
use Rattle.hac_model.specs.declared.states.Entry.{Entry}
use Rattle.layout_check.specs.Rising.{DoRise}

-- numbers that rise between two bounds do rise
abbrev pub RisenDoRise : Type 0
RisenDoRise = (above : ℕ) (entries : List Entry) (below : ℕ) → NumbersRise above entries below → DoRise entries
