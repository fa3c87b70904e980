use Rattle.std.proofs.Common.{sym, ◌∙◌}
use Rattle.kept_state.proofs.StateLemmas.{same-directory}
use Rattle.kept_lookups.proofs.entries.is_directory.Goals as goal

pub returns : goal.returns
returns c = c.is_directory.ensures ∙ sym (same-directory c.args.kept.now.state c.tree.result.now.state c.tree.ensures.tree.bares c.args.number)
