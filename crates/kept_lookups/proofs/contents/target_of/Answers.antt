use Rattle.std.proofs.Common.{sym, ◌∙◌}
use Rattle.kept_state.proofs.StateLemmas.{same-target}
use Rattle.kept_lookups.proofs.contents.target_of.Goals as goal

pub returns : goal.returns
returns c = c.target.ensures ∙ sym (same-target c.args.kept.now.state c.tree.result.now.state c.tree.ensures.tree.bares c.args.link)
