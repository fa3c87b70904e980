-- What queries find, among the numbers of entries.
use Rattle.std.proofs.Common.{◌≡◌, ℕ, Bool, true, false, cond, List, [], ◌∷◌, refl, ap, sym, ◌∙◌}
use Rattle.std.specs.Prelude.{◌&&◌, filter}
use Rattle.hac_model.specs.Query.Formula.{Formula}
use Rattle.hac_model.specs.Query.Queries.{query_meaning}
use Rattle.hac_model.specs.declared.terms.Term.{Term}
use Rattle.hac_model.specs.Tree.Links.{atom, column, found_as, is_item, is_judged, items, links, provide}
use Rattle.hac_model.specs.Tree.Valid.{NumbersRise}
use Rattle.hac_model.specs.Tree.{is_linkable}
use Rattle.hac_model.specs.declared.states.State.{State}
use Rattle.hac_model.proofs.LiveLemmas.{tested-entry}
use Rattle.file_tree.specs.Answers.{numbers_of}
use Rattle.tree_answers.specs.Finding.{is_found_as}
use Rattle.tree_answers.proofs.RangeLemmas.{entries-pass}

-- the items among the numbers of entries are all
pub items-all : (s : State) → NumbersRise 0 s.entries s.next → filter (is_item s) (numbers_of s.entries) ≡ items s
items-all s numbers = sym (entries-pass s.entries s.next numbers (is_item s) (λ n is. tested-entry s.entries is_linkable n is))

module _ (s : State) (atoms : Term → ℕ → Bool) (other : State) (asked : Formula ℕ) where
  -- the item is judged, and satisfies the query
  abbrev passes : ℕ → Bool
  passes item = is_judged s item && query_meaning atoms (provide s (column (links s) item)) asked item

  -- the items of which this holds are found
  items-found : (ns : List ℕ) → filter passes (filter (is_item s) ns) ≡ filter (is_found_as atoms s asked) ns
  items-found [] = refl
  items-found (n ∷ ns) = elim (is_item s n) as (λ b. filter passes (cond b (n ∷ filter (is_item s) ns) (filter (is_item s) ns)) ≡ cond ((b && is_judged s n) && query_meaning atoms (provide s (column (links s) n)) asked n) (n ∷ filter (is_found_as atoms s asked) ns) (filter (is_found_as atoms s asked) ns)) [
    | true ↦ ap (λ (found : List ℕ). cond (passes n) (n ∷ found) found) (items-found ns)
    | false ↦ items-found ns
  ]

  -- what a query finds, where another state has other terms of the items
  pub found-told : NumbersRise 0 s.entries s.next → ((term : Term) (item : ℕ) → atom other term item ≡ atoms term item) → filter (is_found_as atoms s asked) (numbers_of s.entries) ≡ found_as other s asked
  unfolding found_as
  found-told numbers same =
      sym (items-found (numbers_of s.entries))
      ∙ ap (filter passes) (items-all s numbers)
      ∙ (λ i. filter (λ item. is_judged s item && query_meaning (λ term item. sym (same term item) i) (provide s (column (links s) item)) asked item) (items s))
