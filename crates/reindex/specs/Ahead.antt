-- Steps that are to be taken, with all that is known before them.
use Rattle.std.specs.Prelude.{ℕ, ◌++◌, ◌∷◌, [], List}
use Rattle.hac_model.specs.Tree.Depends.{Among}
use Rattle.hac_model.specs.Tree.Valid.{IsValid}
use Rattle.hac_model.specs.declared.states.State.{State}
use Rattle.reeval.specs.Settled.{AreLinksOf}
use Rattle.reeval.specs.declared.verdicts.Change.{Change}
use Rattle.reindex.specs.Steps.{AreSettled, indexed_through}
use Rattle.reindex.specs.Ways.{IsWayOf}
use Rattle.reindex.specs.declared.ahead.StepsAhead.{StepsAhead}

-- the state before the steps, and the one behind them
abbrev pub state_before : StepsAhead → State
state_before ahead = ahead.indexing.kept.now.state

abbrev pub state_behind : StepsAhead → State
state_behind ahead = indexed_through ahead.indexing.last ahead.indexing.kept.now.state

-- the links and the way are those of the state before the steps, and the state behind them is valid
pub record AreAhead (ahead : StepsAhead) : Type 0 where
  pub links : AreLinksOf (state_before ahead) ahead.found.now
  pub way : IsWayOf (state_before ahead) ahead.way.now
  pub valid : IsValid (state_behind ahead)

-- what is new of one more file is added to what is new of others
abbrev pub AddsNewsOf : StepsAhead → ℕ → List Change → List Change → Type 0
AddsNewsOf ahead file old new =
    (files : List ℕ) → ¬ Among files file → AreSettled (state_before ahead) (state_behind ahead) files old
    → AreSettled (state_before ahead) (state_behind ahead) (files ++ file ∷ []) new
