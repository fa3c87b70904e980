-- How often terms may be asked of items while lines are answered.
use Rattle.std.specs.Prelude.{ℕ, ◌+◌, List, [], ◌∷◌, Result, Ok, Err}
use Rattle.hac_model.specs.Run.Given.{Given, given_behind}
use Rattle.hac_model.specs.Run.Play.{Setting, events_in, item_turn}
use Rattle.hac_model.specs.Run.Resolving.{resolve}
use Rattle.hac_model.specs.Script.Lines.{Item}
use Rattle.hac_model.specs.Tree.Costs.{costs, finding}
use Rattle.hac_model.specs.declared.replies.Refusal.{Refusal}
use Rattle.hac_model.specs.declared.resolved.Resolved.{Resolved}
use Rattle.hac_model.specs.declared.resolved.Resolved.TheVariants.{Find}
use Rattle.hac_model.specs.declared.states.State.{State}

-- how many questions the data lines of a command may take: of those that read, `find` alone takes any
abbrev pub answering : State → Resolved → ℕ
answering s (Find query) = finding s query
answering s other = 0

-- the same of a command whose paths were followed
abbrev pub answering_followed : State → Result Resolved Refusal → ℕ
answering_followed s (Ok command) = answering s command
answering_followed s (Err refusal) = 0

-- and of a line
abbrev pub answering_line : State → Item → ℕ
answering_line s (Ok line) = answering_followed s (resolve s line)
answering_line s (Err refusal) = 0

-- how many a line may take: for its data lines, for its events, and for the index steps behind it
abbrev pub line_cost : Given → Setting → Item → ℕ
line_cost given setting item = answering_line setting.state item + costs setting.state (events_in (item_turn given setting item))

-- and lines in order
abbrev pub lines_cost : Given → Setting → List Item → ℕ
lines_cost given setting [] = 0
lines_cost given setting (item ∷ items) =
    line_cost given setting item + lines_cost (given_behind 1 given) (item_turn given setting item).after items
