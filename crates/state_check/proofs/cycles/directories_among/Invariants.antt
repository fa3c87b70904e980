use Rattle.std.proofs.Common.{◌≡◌, ◌++◌}
use Rattle.std.specs.Prelude.{drop, filter}
use Rattle.hac_model.specs.Tree.{is_directory_at}
use Rattle.state_check.proofs.cycles.directories_among.Given as goal

-- those found, and those among what is left, are all
abbrev pub invariant-loop-number : goal.invariant-loop-number
invariant-loop-number l =
    l.dirs.items ++ filter (is_directory_at l.entries) (drop l.number-index l.numbers)
    ≡ filter (is_directory_at l.entries) l.numbers
