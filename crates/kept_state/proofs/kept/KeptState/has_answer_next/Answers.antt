use Rattle.std.proofs.Common.{◌≡◌, List, [], ap, subst, sym, ◌∙◌}
use Rattle.std.specs.Prelude.{unwrap_or}
use Rattle.hac_model.specs.Tree.Links.{has, kept_at}
use Rattle.hac_model.specs.Tree.Mounts.{kept_for}
use Rattle.hac_model.specs.declared.states.Answer.{Answer}
use Rattle.kept_facts.specs.Answers.{AreInOrder}
use Rattle.kept_state.specs.After.{answers_next, next_state}
use Rattle.kept_state.specs.Seen.{Seen}
use Rattle.kept_state.proofs.AfterLemmas.{next-has, next-order}
use Rattle.kept_state.proofs.kept.KeptState.has_answer_next.Goals as goal

pub returns : goal.returns
returns c =
    let inside = c.self.inside in
    let mount = c.args.mount in
    let list : c.answers_next.result.now ≡ answers_next inside.ready inside.parts.answers mount = c.answers_next.ensures in
    c.had.ensures (subst AreInOrder (sym list) (next-order inside c.self.invariant mount))
    ∙ ap (λ (answers : List Answer). has (unwrap_or (kept_for answers c.args.term.now) []) c.args.document) list
    ∙ next-has inside c.self.invariant mount c.args.term.now c.args.document
    ∙ ap (λ (seen : Seen). has (kept_at (next_state seen) mount c.args.term.now) c.args.document) c.self.view_is
