use Rattle.std.proofs.Common.{sym, ◌∙◌}
use Rattle.kept_state.proofs.StateLemmas.{same-query}
use Rattle.kept_lookups.proofs.contents.query_at.Goals as goal

pub returns : goal.returns
returns c = c.query.ensures ∙ sym (same-query c.args.kept.now.state c.tree.result.now.state c.tree.ensures.tree.bares c.args.dir)
