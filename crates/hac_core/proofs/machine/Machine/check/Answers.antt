use Rattle.std.proofs.Common.{ap, subst, sym, ◌∙◌}
use Rattle.hac_model.specs.Run.Standing.{AllStand}
use Rattle.hac_model.proofs.StandLemmas.{line-stands}
use Rattle.kept_state.specs.Seen.{Seen}
use Rattle.hac_core.specs.Seen as machine
use Rattle.hac_core.proofs.machine.Machine.check.Goals as goal
use Rattle.std.specs.Prelude.{IfErr, Option}
use Rattle.hac_model.specs.Run.Answers.{Refuses}
use Rattle.hac_model.specs.Run.Refusals.{cause_against, early_cause, early_refusal}
use Rattle.hac_model.specs.declared.replies.Refusal.{Refusal}
use Rattle.hac_model.specs.declared.states.State.{State}

pub require_unblocked-requires : goal.require_unblocked-requires
require_unblocked-requires c =
    subst (λ (seen : Seen). AllStand seen.state c.in_ok-command.command) c.kept-kept.ensures
    (line-stands c.kept-kept.result.now.state c.args.line c.in_ok-command.command c.know_valid.ensures c.requires c.in_ok-command.ensures)

pub drafted-requires-clause-stands : goal.drafted-requires-clause-stands
drafted-requires-clause-stands c = line-stands c.kept-kept.result.now.state c.args.line c.in_ok-command.command c.know_valid.ensures c.requires c.in_ok-command.ensures

pub returns-in-Ok-clause-refused : goal.returns-in-Ok-clause-refused
returns-in-Ok-clause-refused c =
    let kept : State = c.kept-kept.result.now.state in
    subst (λ (cause : Option Refusal). IfErr c.drafted.result (λ deny. Refuses deny cause))
    (ap (cause_against (early_cause kept)) (sym c.in_ok-command.ensures) ∙ ap (λ (seen : Seen). early_refusal seen.state c.args.line) c.kept-kept.ensures
    ∙ ap (λ (seen : machine.Seen). early_refusal seen.state c.args.line) c.self.view_is)
    c.drafted.ensures.refused
