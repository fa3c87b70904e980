-- What mounts keep once they were told for a query.
use Rattle.std.specs.Prelude.{◌≡◌, ℕ, List, [], Option}
use Rattle.std.specs.Option.{option_map_or}
use Rattle.hac_model.specs.Query.Formula.{Formula}
use Rattle.hac_model.specs.Tree.Asking.{asked_by, gained, with_answers}
use Rattle.hac_model.specs.Tree.{entry_at}
use Rattle.hac_model.specs.declared.states.Answer.{Answer}
use Rattle.hac_model.specs.declared.states.State.{State}
use Rattle.hac_model.specs.declared.terms.Term.{Term}
use Rattle.kept_facts.specs.Answers.{answers_kept, answers_with}
use Rattle.kept_state.specs.declared.parts.Parts.{Parts}

-- the terms for which the mount of a number has to be asked
abbrev pub asked_at : Parts → Formula ℕ → ℕ → List Term
asked_at kept query number = option_map_or (asked_by (answers_kept kept.answers) query) (entry_at kept.tree.state.entries number) []

-- what a mount keeps with what it gains
abbrev pub answers_then : (ℕ → List Answer) → Formula ℕ → List (List ℕ) → State → ℕ → List Answer
answers_then kept query told tree mount = with_answers (gained kept query told tree.entries mount) (kept mount)

-- by these lists, or without any, each mount keeps what it gains too
abbrev pub AreGains : (ℕ → List Answer) → Formula ℕ → List (List ℕ) → State → Option (List (ℕ × List Answer)) → Type 0
AreGains kept query told tree gains = (mount : ℕ) → answers_with kept gains mount ≡ answers_then kept query told tree mount
