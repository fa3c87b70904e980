use Rattle.std.proofs.Common.{sym, ◌∙◌}
use Rattle.kept_state.proofs.StateLemmas.{same-parent}
use Rattle.kept_lookups.proofs.entries.parent_of.Goals as goal

pub returns : goal.returns
returns c = c.parent.ensures ∙ sym (same-parent c.args.kept.now.state c.tree.result.now.state c.tree.ensures.tree.bares c.args.entry)
