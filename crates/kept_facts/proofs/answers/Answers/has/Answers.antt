use Rattle.std.proofs.Common.{List, [], ap, subst, sym, ◌∙◌}
use Rattle.std.specs.Prelude.{unwrap_or}
use Rattle.hac_model.specs.Tree.Links.{has}
use Rattle.hac_model.specs.Tree.Mounts.{kept_for}
use Rattle.hac_model.specs.declared.states.Answer.{Answer}
use Rattle.kept_facts.specs.Answers.{AreInOrder}
use Rattle.kept_facts.proofs.answers.Answers.has.Goals as goal

pub returns : goal.returns
returns c =
    c.had.ensures (subst (λ (l : List Answer). AreInOrder l) (sym c.kept_by.ensures) c.requires)
    ∙ ap (λ (l : List Answer). has (unwrap_or (kept_for l c.args.term.now) []) c.args.document) c.kept_by.ensures
