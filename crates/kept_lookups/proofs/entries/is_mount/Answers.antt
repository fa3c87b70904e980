use Rattle.std.proofs.Common.{sym, ◌∙◌}
use Rattle.kept_state.proofs.StateLemmas.{same-mount}
use Rattle.kept_lookups.proofs.entries.is_mount.Goals as goal

pub returns : goal.returns
returns c = c.is_mount.ensures ∙ sym (same-mount c.args.kept.now.state c.tree.result.now.state c.tree.ensures.tree.bares c.args.number)
