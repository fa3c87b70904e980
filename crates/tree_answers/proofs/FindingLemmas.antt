-- What directories find and provide, by the links that are kept.
use Rattle.std.proofs.Common.{◌≡◌, ℕ, Bool, List, refl, ap}
use Rattle.std.specs.Prelude.{◌&&◌, ◌||◌, not}
use Rattle.hac_model.specs.Query.Formula.{Formula}
use Rattle.hac_model.specs.Query.Formula as query
use Rattle.hac_model.specs.Query.Queries.{query_meaning}
use Rattle.hac_model.specs.Tree.Links.{column, has, links, provide, transient_at}
use Rattle.hac_model.specs.declared.states.State.{State}
use Rattle.hac_model.specs.declared.terms.Term.{Term}
use Rattle.hac_model.proofs.LinkLemmas.{provide-same}
use Rattle.link_kinds.specs.Seen.{Known, transient_in}
use Rattle.reeval.specs.Settled.{AreLinksOf}
use Rattle.scope_rules.specs.Made.{found_in}

-- what a directory found is what it finds
pub found_kept : (s : State) (known : Known) → AreLinksOf s known → (dir item : ℕ) → has (transient_in known dir) item ≡ has (transient_at s dir) item
found_kept s known are dir item = ap (λ (numbers : List ℕ). has numbers item) (are.found dir)

-- a directory provides the same by the links that are kept and by those of the state
pub provided-kept : (s : State) (known : Known) → AreLinksOf s known → (dir item : ℕ) → provide s (column (found_in known) item) dir item ≡ provide s (column (links s) item) dir item
provided-kept s known are dir item =
    provide-same s (column (found_in known) item) (column (links s) item) dir item (λ i. has (are.found dir i) item || has (are.lent dir i) item)

-- a query is judged by what directories provide of the one item
pub judged-as : (atoms : Term → ℕ → Bool) (s : State) (asked : Formula ℕ) (item : ℕ) → query_meaning atoms (λ dir item. provide s (column (links s) item) dir item) asked item ≡ query_meaning atoms (provide s (column (links s) item)) asked item
judged-as atoms s (query.Term term) item = refl
judged-as atoms s (query.Dir dir) item = refl
judged-as atoms s (query.Not q) item = ap not (judged-as atoms s q item)
judged-as atoms s (query.And p q) item = λ i. judged-as atoms s p item i && judged-as atoms s q item i
judged-as atoms s (query.Or p q) item = λ i. judged-as atoms s p item i || judged-as atoms s q item i
