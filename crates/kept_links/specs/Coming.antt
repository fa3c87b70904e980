-- An event that is to happen, with all that is known before it.
use Rattle.std.specs.Prelude.{◌≡◌, ℕ, false, List, [], ◌∷◌, IsTrue}
use Rattle.hac_model.specs.Tree.Costs.{cost}
use Rattle.hac_model.specs.Tree.Events.{accepted, apply}
use Rattle.hac_model.specs.Tree.Touched.{begins}
use Rattle.hac_model.specs.declared.states.State.{State}
use Rattle.reeval.specs.Settled.{AreLinksOf}
use Rattle.reeval.specs.declared.verdicts.Change.{Change}
use Rattle.reindex.specs.Past.{Lead}
use Rattle.reindex.specs.Ways.{IsWayOf}
use Rattle.kept_links.specs.declared.coming.Coming.{Coming}

-- the state before the event, and the one behind it
abbrev pub state_before : Coming → State
state_before coming = coming.kept.now.state

abbrev pub state_behind : Coming → State
state_behind coming = apply coming.kept.now.state coming.event.now

-- how many questions the event may take
abbrev pub cost_of : Coming → ℕ
cost_of coming = cost (state_before coming) coming.event.now

-- the event can happen, the state is ready for it, and beside the state are its links and its way
pub record IsComing (coming : Coming) : Type 0 where
  pub links : AreLinksOf (state_before coming) coming.found.now
  pub way : IsWayOf (state_before coming) coming.way.now
  pub ready : coming.kept.now.ready ≡ coming.event.now ∷ []
  pub accepted : IsTrue (accepted (state_before coming) coming.event.now)

-- it changes links of the items that it touches, and of no others
abbrev pub BeginsNowhere : Coming → Type 0
BeginsNowhere coming = (dir : ℕ) → begins (state_before coming) coming.event.now dir ≡ false

-- by these changes the links before the event lead to those behind it
abbrev pub IsBehind : Coming → List Change → Type 0
IsBehind coming delta = Lead (state_before coming) (state_behind coming) delta
