use Rattle.std.proofs.Common.{subst, ◌≡◌}
use Rattle.std.specs.Prelude.{IfOk}
use Rattle.hac_model.specs.Tree.Depends.{cycle_of_move}
use Rattle.kept_state.specs.Seen.{Seen}
use Rattle.kept_state.proofs.kept.KeptState.cycle_of_move.Goals as goal

pub returns : goal.returns
returns c = subst (λ (x : Seen). IfOk c.cycle_of_move.result (λ way. way ≡ cycle_of_move x.state c.args.entry c.args.dir)) c.self.view_is c.cycle_of_move.ensures
