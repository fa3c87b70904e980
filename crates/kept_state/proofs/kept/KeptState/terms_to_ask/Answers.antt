use Rattle.std.proofs.Common.{ap, sym, ◌∙◌}
use Rattle.hac_model.specs.Tree.Mounts.{terms_to_ask}
use Rattle.hac_model.specs.declared.states.State.{State}
use Rattle.hac_model.proofs.MountFactLemmas.{terms-bare}
use Rattle.kept_state.proofs.kept.KeptState.terms_to_ask.Goals as goal

pub returns : goal.returns
returns c =
    c.new.ensures ∙ c.in_ok-terms.ensures
    ∙ sym (terms-bare c.tree.result.now.state) ∙ ap (λ (s : State). terms_to_ask s.entries) (sym c.tree.ensures.tree.bares) ∙ terms-bare c.args.self.now.state
