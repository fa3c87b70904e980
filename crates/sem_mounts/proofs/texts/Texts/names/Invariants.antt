use Rattle.std.proofs.Common.{◌≡◌, ◌++◌}
use Rattle.sem_mounts.proofs.texts.Texts.names.Given as goal

-- the names so far, and those that are left
abbrev pub invariant-loop-name : goal.invariant-loop-name
invariant-loop-name l = l.found.items ++ l.name-iterator ≡ l.initial.name-iterator
