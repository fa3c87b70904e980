-- What a query says of an item looks at that item alone.
use Rattle.std.proofs.Common.{◌≡◌, ℕ, Bool, refl, ap}
use Rattle.std.specs.Prelude.{◌&&◌, ◌||◌, not}
use Rattle.hac_model.specs.Query.Formula.{Formula}
use Rattle.hac_model.specs.Query.Formula as query
use Rattle.hac_model.specs.Query.Queries.{query_meaning}
use Rattle.hac_model.specs.declared.terms.Term.{Term}

pub meaning-same : (atoms : Term → ℕ → Bool) (p q : ℕ → ℕ → Bool) (item : ℕ) → ((dir : ℕ) → p dir item ≡ q dir item) → (asked : Formula ℕ) → query_meaning atoms p asked item ≡ query_meaning atoms q asked item
meaning-same atoms p q item same (query.Term term) = refl
meaning-same atoms p q item same (query.Dir dir) = same dir
meaning-same atoms p q item same (query.Not asked) = ap not (meaning-same atoms p q item same asked)
meaning-same atoms p q item same (query.And left right) = λ i. meaning-same atoms p q item same left i && meaning-same atoms p q item same right i
meaning-same atoms p q item same (query.Or left right) = λ i. meaning-same atoms p q item same left i || meaning-same atoms p q item same right i
