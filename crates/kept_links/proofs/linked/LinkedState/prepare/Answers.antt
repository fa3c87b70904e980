use Rattle.std.proofs.Common.{ap, sym, ◌∙◌}
use Rattle.hac_model.specs.Tree.Events.{apply}
use Rattle.hac_model.specs.Tree.Limits as limits
use Rattle.kept_state.specs.Seen.{Seen}
use Rattle.kept_links.proofs.CostLemmas.{prepared-cost}
use Rattle.kept_links.proofs.linked.LinkedState.prepare.Goals as goal

pub prepare-requires-clause-counts : goal.prepare-requires-clause-counts
prepare-requires-clause-counts g c = c.requires.counts ∙ ap (λ (seen : Seen). limits.counts (apply seen.state c.args.event)) (sym c.self.view_is)

pub returns-in-Ok-clause-probes : goal.returns-in-Ok-clause-probes
returns-in-Ok-clause-probes g c =
    prepared-cost c.self.inside.kept c.prepare.new.self c.args.self.now c.args.event c.args.probes.now c.prepared_news.new.probes c.in_ok-prepare.ensures.ok c.self.view_is c.prepared_news.ensures.probes

pub returns-in-Err-clause-probes : goal.returns-in-Err-clause-probes
returns-in-Err-clause-probes g c =
    prepared-cost c.self.inside.kept c.prepare.new.self c.args.self.now c.args.event c.args.probes.now c.prepared_news.new.probes c.in_ok-prepare.ensures.ok c.self.view_is c.prepared_news.ensures.probes
