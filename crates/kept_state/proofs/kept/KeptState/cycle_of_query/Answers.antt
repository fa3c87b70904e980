use Rattle.std.proofs.Common.{subst, ◌≡◌}
use Rattle.std.specs.Prelude.{IfOk}
use Rattle.hac_model.specs.Tree.Depends.{cycle_over}
use Rattle.hac_model.specs.Tree.Links.{parent_of}
use Rattle.kept_state.specs.Seen.{Seen}
use Rattle.kept_state.proofs.kept.KeptState.cycle_of_query.Goals as goal

pub returns : goal.returns
returns c = subst (λ (x : Seen). IfOk c.cycle_of_query.result (λ way. way ≡ cycle_over x.state c.args.dir (parent_of x.state c.args.dir) c.args.query.now)) c.self.view_is c.cycle_of_query.ensures
