use Rattle.std.proofs.Common.{[], sym, ◌∙◌}
use Rattle.std.specs.Option.{option_copied, unwrap_or}
use Rattle.hac_core.proofs.AskedLemmas.{same-space}
use Rattle.hac_core.proofs.questions.space_of.Goals as goal

pub returns-in_ok-clone-in-Some : goal.returns-in_ok-clone-in-Some
returns-in_ok-clone-in-Some c =
    let shown = same-space c.args.kept.now.state c.tree.result.now.state c.tree.ensures.tree.bares c.args.mount ∙ sym c.space.ensures in
    c.in_ok-clone-in-Some.ensures.cases ∙ sym ((λ i. unwrap_or (shown i) []) ∙ (λ i. unwrap_or (option_copied (c.in-Some.is i)) []))

pub returns-in-None : goal.returns-in-None
returns-in-None c =
    let shown = same-space c.args.kept.now.state c.tree.result.now.state c.tree.ensures.tree.bares c.args.mount ∙ sym c.space.ensures in
    c.new-in-None.ensures ∙ c.new.ensures.items ∙ sym ((λ i. unwrap_or (shown i) []) ∙ (λ i. unwrap_or (option_copied (c.in-None.is i)) []))
