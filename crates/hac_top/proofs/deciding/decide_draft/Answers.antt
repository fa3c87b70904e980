use Rattle.std.proofs.Common.{arith, subst}
use Rattle.hac_top.specs.Deciding.{IsDenial}
use Rattle.hac_model.specs.declared.replies.Deny.{Deny}
use Rattle.hac_top.proofs.GatherLemmas.{answers-to, fault-decides, gathered-decides}
use Rattle.hac_top.proofs.deciding.decide_draft.Goals as goal

pub decide_answered-requires-clause-answered : goal.decide_answered-requires-clause-answered
decide_answered-requires-clause-answered g c = answers-to (g.P.Spaces.seen c.args.spaces.now) c.args.draft.asks c.in-Ok.answers (rw c.asks.ensures at c.in-Ok.ensures.answers)

pub returns-in-Ok-clause-decides : goal.returns-in-Ok-clause-decides
returns-in-Ok-clause-decides g c =
    gathered-decides (g.P.Spaces.seen c.args.spaces.now) (g.P.Spaces.seen c.gather.new.spaces) c.args.machine.now.state c.args.draft c.in-Ok.answers c.decide_answered.result (g.met.P.Spaces.told c.args.spaces.now) (rw c.asks.ensures at c.in-Ok.ensures.asked) (rw c.asks.ensures at c.in-Ok.ensures.answers)
    c.decide_answered.ensures.happen c.decide_answered.ensures.leads

pub returns-in-Ok-clause-probes : goal.returns-in-Ok-clause-probes
returns-in-Ok-clause-probes g c = c.decide_answered.ensures.probes

pub returns-in-Err-clause-probes : goal.returns-in-Err-clause-probes
returns-in-Err-clause-probes g c = λ command for. omega arith

pub returns-in-Err-clause-decides : goal.returns-in-Err-clause-decides
returns-in-Err-clause-decides g c =
    fault-decides (g.P.Spaces.seen c.args.spaces.now) (g.P.Spaces.seen c.gather.new.spaces) c.args.machine.now.state c.args.draft c.in-Err.fault c.refused.result (g.met.P.Spaces.told c.args.spaces.now) (rw c.asks.ensures at c.in-Err.ensures.asked)
    (subst (λ (why : Deny). IsDenial why c.refused.result) c.denial.ensures c.refused.ensures)
