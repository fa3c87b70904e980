use Rattle.std.proofs.Common.{◌≡◌, ◌++◌, reverse}
use Rattle.command_paths.specs.Walked.{names_of}
use Rattle.command_paths.proofs.placing.push_names.Given as goal

-- the names so far are above those that were left
abbrev pub invariant-loop-name : goal.invariant-loop-name
invariant-loop-name l = names_of l.left ≡ reverse (names_of l.yielded) ++ names_of l.fn.left
