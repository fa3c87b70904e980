use Rattle.std.proofs.Common.{sym, ◌∙◌}
use Rattle.kept_state.proofs.StateLemmas.{same-item}
use Rattle.kept_lookups.proofs.entries.is_item.Goals as goal

pub returns : goal.returns
returns c = c.is_item.ensures ∙ sym (same-item c.args.kept.now.state c.tree.result.now.state c.tree.ensures.tree.bares c.args.number)
