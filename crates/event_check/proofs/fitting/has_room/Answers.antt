use Rattle.std.proofs.Common.{sym, ◌∙◌}
use Rattle.kept_state.proofs.StateLemmas.{same-free}
use Rattle.event_check.proofs.fitting.has_room.Goals as goal

pub returns : goal.returns
returns c = c.is_free.ensures ∙ sym (same-free c.args.kept.now.state c.tree.result.now.state c.tree.ensures.tree.bares c.args.dir c.args.name.now)
