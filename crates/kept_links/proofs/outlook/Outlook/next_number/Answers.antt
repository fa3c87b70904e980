use Rattle.std.proofs.Common.{ap, ◌∙◌}
use Rattle.hac_model.specs.declared.states.State.{State}
use Rattle.kept_state.specs.After.{next_state}
use Rattle.kept_links.proofs.outlook.Outlook.next_number.Goals as goal

pub returns : goal.returns
returns c = c.next_number.ensures (next_state c.self.inside.kept.now) c.self.invariant ∙ ap (λ (s : State). s.next) c.self.view_is
