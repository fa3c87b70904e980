-- Queries as trees: what a query is, without where its parts lie in memory.
use Rattle.std.specs.Prelude.{◌≡◌, ℕ, suc, ◌+◌}
use Rattle.std.proofs.Common.{ap}
use Rattle.std.specs.Coded.{Coded}
use base.Stored.{Gv, gnil, gnum, gcons}
use Rattle.hac_model.specs.declared.terms.Term as asked
use Rattle.hac_model.specs.contracts.terms.Term.{the_row}

-- a query that names directories by a D
pub data Formula (D : Type 0) : Type 0 where
  Term : asked.Term → Formula D
  Dir : D → Formula D
  Not : Formula D → Formula D
  And : Formula D → Formula D → Formula D
  Or : Formula D → Formula D → Formula D

-- how many parts a query has, itself among them
abbrev pub size_of : {D : Type 0} → Formula D → ℕ
size_of (Term term) = 1
size_of (Dir dir) = 1
size_of (Not query) = suc (size_of query)
size_of (And left right) = suc (size_of left + size_of right)
size_of (Or left right) = suc (size_of left + size_of right)

-- how the logic stores a query

abbrev second : Gv → Gv
second gnil = gnil
second (gnum n) = gnil
second (gcons a b) = b

abbrev first : Gv → Gv
first gnil = gnil
first (gnum n) = gnil
first (gcons a b) = a

module _ {D : Type 0} (d : Coded D) where
  pub stored : Formula D → Gv
  stored (Term term) = gcons (gnum 0) (the_row.coded.code term)
  stored (Dir dir) = gcons (gnum 1) (d.code dir)
  stored (Not query) = gcons (gnum 2) (stored query)
  stored (And left right) = gcons (gnum 3) (gcons (stored left) (stored right))
  stored (Or left right) = gcons (gnum 4) (gcons (stored left) (stored right))

  pub stored-inj : (x y : Formula D) → stored x ≡ stored y → x ≡ y
  unfolding stored
  stored-inj (Term t) (Term u) p = ap Term (the_row.coded.inj t u (ap second p))
  stored-inj (Dir t) (Dir u) p = ap Dir (d.inj t u (ap second p))
  stored-inj (Not t) (Not u) p = ap Not (stored-inj t u (ap second p))
  stored-inj (And t v) (And u w) p = λ i. And (stored-inj t u (ap (λ g. first (second g)) p) i) (stored-inj v w (ap (λ g. second (second g)) p) i)
  stored-inj (Or t v) (Or u w) p = λ i. Or (stored-inj t u (ap (λ g. first (second g)) p) i) (stored-inj v w (ap (λ g. second (second g)) p) i)
  stored-inj x y p = cc

  abbrev pub formula_code : Coded (Formula D)
  formula_code = record { code = stored; inj = stored-inj }
