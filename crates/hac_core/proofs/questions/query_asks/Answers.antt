use Rattle.std.proofs.Common.{◌∙◌}
use Rattle.hac_core.proofs.AskedLemmas.{asked}
use Rattle.hac_core.proofs.questions.query_asks.Goals as goal

pub returns : goal.returns
returns c = asked c.args.kept.now.state c.args.query.now c.new.result c.as_slice.result.now (c.new.ensures ∙ c.in_ok-searches.ensures) (c.as_slice.ensures.value ∙ c.in_ok-questions.ensures)
