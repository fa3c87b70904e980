-- Entries whose numbers rise.
use Rattle.std.specs.Prelude.{◌<◌, List, [], ◌∷◌}
use Rattle.std.specs.List.{AllByRecursion}
use Rattle.hac_model.specs.declared.states.Entry.{Entry}

-- each has a number below those of all that follow
abbrev pub DoRise : List Entry → Type 0
DoRise [] = Unit {0}
DoRise (entry ∷ entries) = AllByRecursion (λ other. entry.number < other.number) entries × DoRise entries
