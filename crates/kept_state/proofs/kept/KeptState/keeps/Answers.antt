use Rattle.std.proofs.Common.{List, ap, ◌∙◌}
use Rattle.hac_model.specs.Tree.Links.{answers_at}
use Rattle.hac_model.specs.Tree.Mounts.{is_kept}
use Rattle.hac_model.specs.declared.states.Answer.{Answer}
use Rattle.kept_state.specs.Seen.{Seen}
use Rattle.kept_state.proofs.AnswerLemmas.{kept-answers, kept-order}
use Rattle.kept_state.proofs.kept.KeptState.keeps.Goals as goal

pub keeps-requires : goal.keeps-requires
keeps-requires c = kept-order c.self.inside.parts c.self.invariant.linked c.args.mount

pub returns : goal.returns
returns c =
    c.keeps.ensures ∙ ap (λ (answers : List Answer). is_kept answers c.args.term.now) (kept-answers c.self.inside.parts c.self.invariant.linked c.args.mount)
    ∙ ap (λ (seen : Seen). is_kept (answers_at seen.state c.args.mount) c.args.term.now) c.self.view_is
