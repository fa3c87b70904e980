use Rattle.std.proofs.Common.{◌≡◌, take}
use Rattle.sem_mounts.proofs.memory.copies.Given as goal

-- the files so far
abbrev pub invariant-loop-name : goal.invariant-loop-name
invariant-loop-name l = l.copies.items ≡ take l.name-index l.files
