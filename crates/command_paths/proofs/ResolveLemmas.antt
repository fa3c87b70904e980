-- What a command leads to, whoever gives it.
use Rattle.std.proofs.Common.{◌≡◌, ℕ, List, refl}
use Rattle.std.specs.Prelude.{Option}
use Rattle.hac_model.specs.Run.Resolving.{resolved, resolved_for}
use Rattle.hac_model.specs.declared.commands.Command.{Command}
use Rattle.hac_model.specs.declared.commands.Command.TheVariants as command
use Rattle.hac_model.specs.declared.paths.PathWord.{PathWord}
use Rattle.hac_model.specs.declared.states.State.{State}

-- what a session's command leads to, where it isn't `cd`
pub other-resolved : (s : State) (session : List ℕ) (base : ℕ) (c : Command) → ((path : Option PathWord) → c ≡ command.Cd path → ⊥) → resolved_for s session base c ≡ resolved s base c
other-resolved s session base (command.Cd path) other = absurd (other path refl)
other-resolved s session base c other = refl
