-- No name is left, or no mark.
use Rattle.std.proofs.Common.{◌≡◌, [], ap, inl, inr, rules}
use Rattle.std.specs.Iterator.Adapters.{zip_first, zip_second}
use Rattle.std.specs.Slice.Iter.{iter_rest}
use Rattle.sem_mounts.specs.WordLists.{marked}
use Rattle.sem_mounts.proofs.WordListLemmas.{marked-none}
use Rattle.sem_mounts.proofs.texts.Texts.names_marked.Goals as goal

pub returns : goal.returns
returns c =
    let names = zip_first c.loop-name.name-iterator in
    let marks = iter_rest (zip_second c.loop-name.name-iterator) in
    let ended = rw c.in-None.is at c.next.ensures.steps in
    let left : marked names marks ≡ [] =
    elim ended [
      | inl w ↦ ap (λ names. marked names marks) w.1.0
      | inr w ↦ marked-none names marks w.1.0
    ] in
    search (rules, left)
