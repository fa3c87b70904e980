use Rattle.std.proofs.Common.{ap, sym, ◌∙◌}
use Rattle.hac_model.specs.declared.states.State.{State}
use Rattle.kept_lookups.proofs.entries.version.Goals as goal

pub returns : goal.returns
returns c = c.version.ensures ∙ sym (ap (λ (s : State). s.version) c.tree.ensures.tree.bares)
