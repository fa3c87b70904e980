use Rattle.std.proofs.Common.{sym, ◌∙◌}
use Rattle.kept_state.proofs.StateLemmas.{same-shown}
use Rattle.kept_lookups.proofs.contents.shown_of.Goals as goal

pub returns : goal.returns
returns c = c.shown.ensures ∙ sym (same-shown c.args.kept.now.state c.tree.result.now.state c.tree.ensures.tree.bares c.args.item)
