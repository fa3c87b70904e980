use Rattle.std.proofs.Common.{◌≡◌, ◌++◌, ℕ, List, [], drop, map}
use Rattle.hac_model.specs.Run.Asks.{documents_named}
use Rattle.hac_model.specs.Tree.Mounting.{mounted}
use Rattle.tree_answers.proofs.mount_events.mounted_told.Given as goal

-- what was told so far, and what is told of the names to come, is all
abbrev pub invariant-loop-names : goal.invariant-loop-names
invariant-loop-names l = (dir : ℕ) (name space : List ℕ) →
    l.told.items ++ map (documents_named (mounted l.kept.state dir name space [] l.list) l.kept.state.next) (drop l.names-index l.found)
    ≡ map (documents_named (mounted l.kept.state dir name space [] l.list) l.kept.state.next) l.found
