use Rattle.hac_top.specs.Run.{usage_line}
use Rattle.hac_top.proofs.ReplyLemmas.{some-all}
use Rattle.hac_top.proofs.running.write_usage.Goals as goal

pub returns-in-Ok-clause-some : goal.returns-in-Ok-clause-some
returns-in-Ok-clause-some g c = some-all (g.K.Sink.seen c.args.output.now).written (g.K.Sink.seen c.write_now.new.output).written usage_line c.in-Ok.ensures.ok
