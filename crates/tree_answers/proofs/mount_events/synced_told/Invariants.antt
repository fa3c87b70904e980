use Rattle.std.proofs.Common.{◌≡◌, ◌++◌, [], drop, map}
use Rattle.hac_model.specs.Run.Asks.{documents_named}
use Rattle.hac_model.specs.Tree.Mounting.{synced}
use Rattle.tree_answers.proofs.mount_events.synced_told.Given as goal

-- what was told so far, and what is told of the names to come, is all
abbrev pub invariant-loop-names : goal.invariant-loop-names
invariant-loop-names l =
    l.told.items ++ map (documents_named (synced l.kept.state l.mount [] l.list) l.mount) (drop l.names-index l.found)
    ≡ map (documents_named (synced l.kept.state l.mount [] l.list) l.mount) l.found
