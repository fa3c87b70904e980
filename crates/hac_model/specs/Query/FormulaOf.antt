-- The tree that a query in memory is.
use Rattle.hac_model.specs.Query.Formula.{Formula}
use Rattle.hac_model.specs.Query.Formula as formula
use Rattle.hac_model.specs.declared.queries.Node.{Node}
use Rattle.hac_model.specs.declared.queries.Node.TheVariants.{Term, Dir, Not, And, Or}

abbrev pub formula_of : {D : Type 0} → Node D → Formula D
formula_of (Term term) = formula.Term term
formula_of (Dir dir) = formula.Dir dir
formula_of (Not query) = formula.Not query.value
formula_of (And left right) = formula.And left.value right.value
formula_of (Or left right) = formula.Or left.value right.value
