use Rattle.std.proofs.Common.{◌≡◌, ◌++◌}
use Rattle.std.specs.Iterator.Adapters.{zip_first, zip_second}
use Rattle.std.specs.Slice.Iter.{iter_rest}
use Rattle.sem_mounts.specs.WordLists.{marked}
use Rattle.sem_mounts.proofs.texts.Texts.names_marked.Given as goal

-- the names so far, and those that are left
abbrev pub invariant-loop-name : goal.invariant-loop-name
invariant-loop-name l =
    l.found.items ++ marked (zip_first l.name-iterator) (iter_rest (zip_second l.name-iterator))
    ≡ marked (zip_first l.initial.name-iterator) (iter_rest (zip_second l.initial.name-iterator))
