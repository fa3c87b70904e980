use Rattle.std.proofs.Common.{sym, ◌∙◌}
use Rattle.kept_state.proofs.StateLemmas.{same-asks}
use Rattle.event_check.proofs.fitting.names_directories.Goals as goal

pub returns : goal.returns
returns c = c.may_ask.ensures ∙ sym (same-asks c.args.kept.now.state c.tree.result.now.state c.tree.ensures.tree.bares c.args.query.now)
