use Rattle.std.proofs.Common.{◌≡◌, List, None, ap, subst, sym, ◌∙◌}
use Rattle.std.specs.Prelude.{Option}
use Rattle.std.specs.Option.{option_map}
use Rattle.hac_model.specs.Run.Answers.{Passes, Refuses}
use Rattle.hac_model.specs.Tree.Limits.{answer_limits, first_passed, layout_limits}
use Rattle.hac_model.specs.declared.limits.Limit.{Limit}
use Rattle.hac_model.specs.declared.replies.Refusal.{Refusal}
use Rattle.hac_model.specs.declared.replies.Refusal.TheVariants as refusal
use Rattle.event_check.proofs.CountedLemmas.{passed-front, refused-front}
use Rattle.event_check.proofs.counting.within_all.Goals as goal

abbrev cause_of : List Limit → Option Refusal
cause_of limits = option_map refusal.Limit (first_passed limits)

pub returns-in-Err : goal.returns-in-Err
returns-in-Err c =
    refused-front (layout_limits c.args.version c.args.counts) (answer_limits c.args.version c.args.counts) c.in-Err.deny
    (subst (λ (limits : List Limit). Refuses c.in-Err.deny (cause_of limits)) c.layout_limits.ensures c.in-Err.ensures)

pub returns-in-Ok : goal.returns-in-Ok
returns-in-Ok c =
    let none = subst (λ (limits : List Limit). cause_of limits ≡ None) c.layout_limits.ensures c.in-Ok.ensures in
    subst (λ (cause : Option Refusal). Passes c.within-in-Ok.result cause)
    (ap cause_of c.answer_limits.ensures ∙ sym (passed-front (layout_limits c.args.version c.args.counts) (answer_limits c.args.version c.args.counts) none)) c.within-in-Ok.ensures
