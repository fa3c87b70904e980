use Rattle.std.proofs.Common.{◌≡◌, ◌++◌, drop, map, vec_len}
use Rattle.hac_model.specs.Run.Asks.{told_to}
use Rattle.tree_answers.specs.Asked.{mount_of}
use Rattle.tree_answers.proofs.asking.told_by.Given as goal

-- what was told so far, and what is told of the questions to come, is all
abbrev pub invariant-told : goal.invariant-told
invariant-told l =
    (vec_len l.told ≡ l.names-index)
    × (l.told.items ++ told_to l.kept.state (map mount_of (drop l.names-index l.questions)) (drop l.names-index l.found) ≡ told_to l.kept.state (map mount_of l.questions) l.found)
