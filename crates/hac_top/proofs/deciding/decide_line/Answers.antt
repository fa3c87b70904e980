use Rattle.std.proofs.Common.{◌+◌, ◌≤◌, subst, sym}
use Rattle.std.specs.Prelude.{Result}
use Rattle.hac_model.specs.Run.Costs.{answering_followed}
use Rattle.hac_model.specs.declared.replies.Refusal.{Refusal}
use Rattle.hac_model.specs.declared.resolved.Resolved.{Resolved}
use Rattle.hac_top.proofs.GatherLemmas.{draft-item, early-item}
use Rattle.hac_top.proofs.deciding.decide_line.Goals as goal

pub decide_draft-requires : goal.decide_draft-requires
decide_draft-requires g c = (c.in-Ok.ensures.draft.0, c.in-Ok.ensures.draft.2)

pub returns-in-Ok-clause-decides : goal.returns-in-Ok-clause-decides
returns-in-Ok-clause-decides g c =
    draft-item (g.P.Spaces.seen c.args.spaces.now) (g.P.Spaces.seen c.decide_draft.new.spaces) c.args.machine.now.state c.args.line c.in-Ok.draft c.decide_draft.result c.in-Ok.ensures.draft c.decide_draft.ensures.decides

-- its command is the one that the draft is for
pub returns-in-Ok-clause-probes : goal.returns-in-Ok-clause-probes
returns-in-Ok-clause-probes g c =
    let s = c.args.machine.now.state in
    let draft = c.in-Ok.ensures.draft in
    subst (λ (r : Result Resolved Refusal). c.decide_draft.new.probes ≤ c.args.probes.now + answering_followed s r) (sym draft.1) (c.decide_draft.ensures.probes draft.0 draft.2)

pub returns-in-Err-clause-decides : goal.returns-in-Err-clause-decides
returns-in-Err-clause-decides g c = early-item (g.P.Spaces.seen c.args.spaces.now) c.args.machine.now.state c.args.line c.in-Err.deny c.refused.result c.refused.ensures c.in-Err.ensures.refused
