use Rattle.std.proofs.Common.{sym, ◌∙◌}
use Rattle.kept_state.proofs.StateLemmas.{same-document}
use Rattle.kept_lookups.proofs.entries.is_document.Goals as goal

pub returns : goal.returns
returns c = c.is_document.ensures ∙ sym (same-document c.args.kept.now.state c.tree.result.now.state c.tree.ensures.tree.bares c.args.number)
