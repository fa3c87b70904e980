use Rattle.std.proofs.Common.{sym, subst, ◌∙◌}
use Rattle.std.specs.Prelude.{IsTrue}
use Rattle.hac_model.specs.Run.Answers.{Refuses}
use Rattle.hac_model.specs.Tree.Events.{is_placed}
use Rattle.hac_core.proofs.SettleLemmas.{settling-is}
use Rattle.hac_core.specs.declared.drafts.Change.{Change}
use Rattle.hac_core.proofs.settling.settled_few.Goals as goal

pub require_limits-requires : goal.require_limits-requires
require_limits-requires c = subst (λ (change : Change). IsTrue (is_placed c.args.kept.now.state change.event)) (sym c.in_ok-change.ensures) c.requires.placed

pub returns-in-Ok-clause-limits : goal.returns-in-Ok-clause-limits
returns-in-Ok-clause-limits c =
    settling-is c.args.kept.now.state c.args.answers c.args.change.event c.in_ok-change.change c.in_ok-change.ensures c.requires.few ∙ c.in-Ok.ensures

pub returns-in-Err-clause-limits : goal.returns-in-Err-clause-limits
returns-in-Err-clause-limits c =
    subst (Refuses c.in-Err.deny) (sym (settling-is c.args.kept.now.state c.args.answers c.args.change.event c.in_ok-change.change c.in_ok-change.ensures c.requires.few)) c.in-Err.ensures
