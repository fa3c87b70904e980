use Rattle.std.proofs.Common.{sym, ◌∙◌}
use Rattle.hac_model.specs.Tree.Events.{next_dirty}
use Rattle.hac_model.proofs.BareLemmas.{next_dirty-bare}
use Rattle.kept_state.proofs.StateLemmas.{alike}
use Rattle.kept_lookups.proofs.entries.next_dirty.Goals as goal

pub returns : goal.returns
returns c = c.next_dirty.ensures.next ∙ sym (alike c.args.kept.now.state c.tree.result.now.state c.tree.ensures.tree.bares (λ s. next_dirty s.entries) (λ s. next_dirty-bare s.entries))
