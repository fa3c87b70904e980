use Rattle.std.proofs.Common.{sym, ◌∙◌}
use Rattle.kept_state.proofs.StateLemmas.{same-next}
use Rattle.kept_lookups.proofs.entries.next_number.Goals as goal

pub returns : goal.returns
returns c = c.next_number.ensures.number ∙ sym (same-next c.args.kept.now.state c.tree.result.now.state c.tree.ensures.tree.bares)
