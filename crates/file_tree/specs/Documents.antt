-- The documents of a mount, once it has others.
use Rattle.std.specs.Prelude.{ℕ, List}
use Rattle.hac_model.specs.Tree.{child}
use Rattle.hac_model.specs.declared.states.State.{State}
use Rattle.tree_nodes.specs.Documents.{numbers_from}

-- the list of a mount once its documents have these names: those that it has keep their numbers, and others take the next
-- ones
abbrev pub numbers_for : State → ℕ → List (List ℕ) → List ℕ
numbers_for s mount names = numbers_from (child s.entries mount) s.next names
