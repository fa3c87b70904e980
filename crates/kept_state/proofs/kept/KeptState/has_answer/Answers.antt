use Rattle.std.proofs.Common.{List, [], ap, ◌∙◌}
use Rattle.std.specs.Prelude.{unwrap_or}
use Rattle.hac_model.specs.Tree.Links.{has, kept_at}
use Rattle.hac_model.specs.Tree.Mounts.{kept_for}
use Rattle.hac_model.specs.declared.states.Answer.{Answer}
use Rattle.kept_state.specs.Seen.{Seen}
use Rattle.kept_state.proofs.AnswerLemmas.{kept-answers, kept-order}
use Rattle.kept_state.proofs.kept.KeptState.has_answer.Goals as goal

pub has-requires : goal.has-requires
has-requires c = kept-order c.self.inside.parts c.self.invariant.linked c.args.mount

pub returns : goal.returns
returns c =
    c.has.ensures ∙ ap (λ (answers : List Answer). has (unwrap_or (kept_for answers c.args.term.now) []) c.args.document) (kept-answers c.self.inside.parts c.self.invariant.linked c.args.mount)
    ∙ ap (λ (seen : Seen). has (kept_at seen.state c.args.mount c.args.term.now) c.args.document) c.self.view_is
