-- A state with its links, and changes that lead to those of another state.
use Rattle.std.specs.Prelude.{◌≡◌, ℕ, List}
use Rattle.hac_model.specs.declared.states.State.{State}
use Rattle.reeval.specs.Judging.{verdict_of}
use Rattle.reeval.specs.Settled.{AreFresh, AreLinksOf}
use Rattle.reeval.specs.Told.{news_on, told}
use Rattle.reeval.specs.declared.verdicts.Change.{Change}
use Rattle.reindex.specs.declared.past.Past.TheInside as past

-- the changes lead from the links of one state to those of another, and each says something new
pub record Lead (s t : State) (delta : List Change) : Type 0 where
  pub verdicts : (item dir : ℕ) → told (news_on item delta) (verdict_of s item) dir ≡ verdict_of t item dir
  pub fresh : AreFresh s delta

abbrev pub state_of_past : past.Inside → State
state_of_past past = past.kept.now.state

-- the links are those of the state
abbrev pub IsPast : past.Inside → Type 0
IsPast past = AreLinksOf past.kept.now.state past.found.now
