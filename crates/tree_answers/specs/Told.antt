-- Items that a query finds, where mounts were told things besides.
use Rattle.std.specs.Prelude.{ℕ, Bool}
use Rattle.hac_model.specs.Query.Formula.{Formula}
use Rattle.tree_answers.specs.Asked.{atom_told}
use Rattle.tree_answers.specs.Finding.{is_found_as}
use Rattle.tree_answers.specs.declared.telling.Told.{Told}

-- the query finds the item
abbrev pub is_found_told : Told → Formula ℕ → ℕ → Bool
is_found_told told query item =
    is_found_as (atom_told told.linked.now.state told.questions.now told.documents.now) told.linked.now.state query item
