-- Queries as they are printed.
use Rattle.std.specs.Prelude.{ℕ, Bool, true, false, List, ◌++◌, codes}
use Rattle.hac_model.specs.Query.Formula.{Formula}
use Rattle.hac_model.specs.Query.Formula as formula
use Rattle.hac_model.specs.Query.Grammar.{escaped}
use Rattle.hac_model.specs.declared.terms.Term.{Term}
use Rattle.hac_model.specs.declared.terms.Term.TheVariants as term

abbrev pub is_or : {D : Type 0} → Formula D → Bool
is_or (formula.Or left right) = true
is_or other = false

-- the query is two that are joined
abbrev pub is_joined : {D : Type 0} → Formula D → Bool
is_joined (formula.And left right) = true
is_joined (formula.Or left right) = true
is_joined other = false

-- in parentheses, where they are needed
abbrev pub around : Bool → List ℕ → List ℕ
around true bytes = codes "(" ++ (bytes ++ codes ")")
around false bytes = bytes

abbrev pub term_text : Term → List ℕ
term_text (term.Word letters) = letters
term_text (term.Prefix letters) = letters ++ codes "*"

-- a query as it is printed, with only the parentheses that its tree needs: round an `OR` below an `AND`, round both
-- below a `NOT`, and parentheses round a right operand of the same operator
abbrev pub query_text : Formula (List ℕ) → List ℕ
query_text (formula.Term asked) = term_text asked
query_text (formula.Dir path) = codes "{" ++ (escaped path ++ codes "}")
query_text (formula.Not query) = codes "NOT " ++ around (is_joined query) (query_text query)
query_text (formula.And left right) =
    around (is_or left) (query_text left) ++ (codes " AND " ++ around (is_joined right) (query_text right))
query_text (formula.Or left right) = query_text left ++ (codes " OR " ++ around (is_or right) (query_text right))

-- a query whose directories are named by others
abbrev pub referred_by : {D E : Type 0} → (D → E) → Formula D → Formula E
referred_by name (formula.Term asked) = formula.Term asked
referred_by name (formula.Dir dir) = formula.Dir (name dir)
referred_by name (formula.Not query) = formula.Not (referred_by name query)
referred_by name (formula.And left right) = formula.And (referred_by name left) (referred_by name right)
referred_by name (formula.Or left right) = formula.Or (referred_by name left) (referred_by name right)
