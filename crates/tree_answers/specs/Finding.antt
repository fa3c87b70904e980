-- Items that queries judge, and those that they find.
use Rattle.std.specs.Prelude.{ℕ, Bool, ◌&&◌}
use Rattle.hac_model.specs.Query.Formula.{Formula}
use Rattle.hac_model.specs.Query.Queries.{query_meaning}
use Rattle.hac_model.specs.Tree.Links.{column, is_item, is_judged, links, provide}
use Rattle.hac_model.specs.declared.states.State.{State}
use Rattle.hac_model.specs.declared.terms.Term.{Term}

-- the number is that of an item that queries judge
abbrev pub is_judged_item : State → ℕ → Bool
is_judged_item s number = is_item s number && is_judged s number

-- the query finds the item, which it judges and which satisfies it, given which terms items have
abbrev pub is_found_as : (Term → ℕ → Bool) → State → Formula ℕ → ℕ → Bool
is_found_as atoms s query item =
    is_judged_item s item && query_meaning atoms (provide s (column (links s) item)) query item
