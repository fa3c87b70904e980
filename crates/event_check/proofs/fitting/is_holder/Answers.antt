use Rattle.std.proofs.Common.{sym, ◌∙◌}
use Rattle.event_check.proofs.PlacedLemmas.{same-made_holder}
use Rattle.event_check.proofs.fitting.is_holder.Goals as goal

pub returns : goal.returns
returns c = c.is_made_holder.ensures ∙ sym (same-made_holder c.args.kept.now.state c.tree.result.now.state c.tree.ensures.tree.bares c.args.dir)
