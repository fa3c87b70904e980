use Rattle.std.proofs.Common.{◌≡◌, rules}
use Rattle.std.specs.Prelude.{Ok}
use Rattle.hac_model.specs.Script.Lines.{item_taken}
use Rattle.hac_top.proofs.GatherLemmas.{form-decides}
use Rattle.hac_top.proofs.deciding.decide.Goals as goal

pub returns-in-Ok-clause-decides : goal.returns-in-Ok-clause-decides
returns-in-Ok-clause-decides g c = let told : item_taken c.args.line c.args.taken ≡ Ok c.in-Ok.line = search rules in rw told c.decide_line.ensures.decides

pub returns-in-Ok-clause-probes : goal.returns-in-Ok-clause-probes
returns-in-Ok-clause-probes g c = let told : item_taken c.args.line c.args.taken ≡ Ok c.in-Ok.line = search rules in rw told c.decide_line.ensures.probes

pub returns-clause-decides : goal.returns-clause-decides
returns-clause-decides g c = form-decides (g.P.Spaces.seen c.args.spaces.now) c.args.machine.now.state (item_taken c.args.line c.args.taken) c.in-Err.deny c.refused.result c.refused.ensures (rw c.as_slice.ensures at c.in-Err.ensures.line)
