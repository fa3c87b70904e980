use Rattle.std.proofs.Common.{IfOk, subst, sym, ◌≡◌}
use Rattle.std.specs.Prelude.{IsTrue}
use Rattle.hac_model.specs.Tree.Events.{apply, is_placed}
use Rattle.hac_model.specs.Tree.Limits.{are_answers_few}
use Rattle.kept_state.specs.Seen.{Seen}
use Rattle.kept_state.proofs.kept.KeptState.keeps_few_after.Goals as goal

pub keeps_few_after-requires-clause-placed : goal.keeps_few_after-requires-clause-placed
keeps_few_after-requires-clause-placed c = subst (λ (x : Seen). IsTrue (is_placed x.state c.args.event.now)) (sym c.self.view_is) c.requires

pub returns : goal.returns
returns c = subst (λ (x : Seen). IfOk c.keeps_few_after.result (λ few. few ≡ are_answers_few (apply x.state c.args.event.now).entries)) c.self.view_is c.keeps_few_after.ensures
