use Rattle.std.proofs.Common.{ap, ◌∙◌}
use Rattle.hac_model.specs.Tree.Links.{answers_at}
use Rattle.kept_state.specs.Seen.{Seen}
use Rattle.kept_state.proofs.AnswerLemmas.{kept-answers}
use Rattle.kept_state.proofs.kept.KeptState.answers_of.Goals as goal

pub returns : goal.returns
returns c =
    c.kept_by.ensures ∙ kept-answers c.self.inside.parts c.self.invariant.linked c.args.mount
    ∙ ap (λ (seen : Seen). answers_at seen.state c.args.mount) c.self.view_is
