-- Where the paths of a command begin.
use Rattle.std.specs.Prelude.{◌≡◌, refl, ℕ, IsTrue}
use Rattle.std.specs.Coded.{Coded, code_by, coded×, coded_ℕ}
use Rattle.hac_model.specs.Tree.{is_directory_at}
use Rattle.hac_model.specs.declared.states.State.{State}
use Rattle.hac_model.specs.contracts.states.State as state
use Rattle.command_paths.specs.declared.resolving.Resolver.TheInside.{Inside}

-- a state, and the directory from which paths lead on
pub record Standing : Type 0 where
  pub state : State
  pub base : ℕ

abbrev pub standing_code : Coded Standing
standing_code = code_by (State × ℕ) (coded× state.the_row.coded coded_ℕ) (λ standing. (standing.state, standing.base)) (λ parts. record { state = parts.0; base = parts.1 }) (λ _. refl)

abbrev pub standing_of : Inside → Standing
standing_of resolver = record { state = resolver.tree.now.state; base = resolver.base }

-- it is a directory
abbrev pub StandsInDirectory : Inside → Type 0
StandsInDirectory resolver = IsTrue (is_directory_at resolver.tree.now.state.entries resolver.base)
