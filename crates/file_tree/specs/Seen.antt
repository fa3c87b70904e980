-- What callers see of a tree.
use Rattle.std.specs.Prelude.{refl}
use Rattle.std.specs.Coded.{Coded, code_by, coded×}
use Rattle.hac_model.specs.declared.states.State.{State}
use Rattle.hac_model.specs.contracts.states.State as state
use Rattle.file_tree.specs.declared.ready.Ready.{Ready}
use Rattle.file_tree.specs.contracts.ready.Ready as ready

-- the state of the tree, and what the tree is ready for
pub record Seen : Type 0 where
  pub state : State
  pub ready : Ready

abbrev pub seen_code : Coded Seen
seen_code = code_by (State × Ready) (coded× state.the_row.coded ready.the_row.coded) (λ seen. (seen.state, seen.ready)) (λ parts. record { state = parts.0; ready = parts.1 }) (λ _. refl)
