use Rattle.std.proofs.Common.{sym, ◌∙◌}
use Rattle.event_check.proofs.CountedLemmas.{same-after, same-seated}
use Rattle.event_check.proofs.counting.counts_after.Goals as goal

pub counts_after-requires : goal.counts_after-requires
counts_after-requires c = sym (same-seated c.args.kept.now.state c.tree.result.now.state c.tree.ensures.tree.bares c.args.event.now) ∙ c.requires

pub returns : goal.returns
returns c = c.counts_after.ensures ∙ same-after c.args.kept.now.state c.tree.result.now.state c.tree.ensures.tree.bares c.args.event.now
