-- What an index says of the words of one item of a state.
use Rattle.std.specs.Prelude.{◌≡◌, ℕ, true, IfSome}
use Rattle.hac_model.specs.Tree.Links.{atom, is_item, is_judged}
use Rattle.hac_model.specs.declared.states.State.{State}
use Rattle.hac_model.specs.declared.terms.Term.{Term}
use Rattle.query_index.specs.Seen.{Fitting, answer_of}
use Rattle.reindex.specs.Steps.{indexed_through}
use Rattle.reindex.specs.declared.fitted.Fitted.TheInside as fitted

-- the number is that of an item that queries judge, and what the index says of a term, the state says of the item
pub record TellsItem (s : State) (number : ℕ) (fit : Fitting) : Type 0 where
  pub there : is_item s number ≡ true
  pub judged : is_judged s number ≡ true
  pub terms : (term : Term) → IfSome (answer_of fit term) (λ has. has ≡ atom s term number)

abbrev pub state_of_fitted : fitted.Inside → State
state_of_fitted fitted = indexed_through fitted.indexing.now.last fitted.indexing.now.kept.now.state

abbrev pub IsFitted : fitted.Inside → Type 0
IsFitted fitted = TellsItem (state_of_fitted fitted) fitted.item fitted.fit.now
