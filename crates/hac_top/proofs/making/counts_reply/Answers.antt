use Rattle.std.proofs.Common.{arith}
use Rattle.hac_model.specs.declared.resolved.Resolved.TheVariants.{Counts}
use Rattle.hac_top.proofs.CountsLemmas.{counts-answers, counts-draft, counts-refused, counts-spelled}
use Rattle.hac_top.proofs.making.counts_reply.Goals as goal

pub check-requires : goal.check-requires
check-requires g c = counts-spelled c.in_ok-counts_line.field-0 c.in_ok-counts_line.ensures

pub ask-requires-clause-answered : goal.ask-requires-clause-answered
ask-requires-clause-answered g c =
    let s = c.args.machine.now.state in
    counts-answers s c.in-Ok.draft c.no_answers.result c.no_answers.ensures (counts-draft s c.in_ok-counts_line.field-0 c.in-Ok.draft c.in_ok-counts_line.ensures c.in-Ok.ensures.draft)

pub only_memory-requires-in-Err : goal.only_memory-requires-in-Err
only_memory-requires-in-Err g c = counts-refused c.args.machine.now.state c.in_ok-counts_line.field-0 c.in-Err.deny c.requires c.in_ok-counts_line.ensures c.in-Err.ensures.refused

-- it asks nothing, however it ends
pub returns-in-Ok-ask-clause-probes : goal.returns-in-Ok-ask-clause-probes
returns-in-Ok-ask-clause-probes g c =
    let s = c.args.machine.now.state in
    omega (arith, c.ask.ensures.probes Counts (counts-draft s c.in_ok-counts_line.field-0 c.in-Ok.draft c.in_ok-counts_line.ensures c.in-Ok.ensures.draft))

pub returns-in-Err-ask-clause-probes : goal.returns-in-Err-ask-clause-probes
returns-in-Err-ask-clause-probes g c =
    let s = c.args.machine.now.state in
    omega (arith, c.ask.ensures.probes Counts (counts-draft s c.in_ok-counts_line.field-0 c.in-Ok.draft c.in_ok-counts_line.ensures c.in-Ok.ensures.draft))
