use Rattle.std.proofs.Common.{ap, subst, sym, ◌∙◌, ℕ}
use Rattle.std.specs.Prelude.{Result}
use Rattle.hac_model.specs.Run.Answers.{Answers}
use Rattle.hac_model.specs.Run.Resolving.{resolved_for}
use Rattle.hac_model.specs.Tree.{is_directory_at}
use Rattle.hac_model.specs.declared.replies.Refusal.{Refusal}
use Rattle.hac_model.specs.declared.resolved.Resolved.{Resolved}
use Rattle.hac_model.proofs.SessionLemmas.{session-there}
use Rattle.kept_state.proofs.StateLemmas.{same-directory, same-resolved}
use Rattle.command_paths.proofs.commands.followed.Goals as goal

pub invariant_of-resolver : goal.invariant_of-resolver
invariant_of-resolver c =
    let s = c.args.kept.now.state in
    let t = c.tree.result.now.state in
    sym (same-directory s t c.tree.ensures.tree.bares c.stands_in-base.result)
    ∙ ap (is_directory_at s.entries) c.stands_in-base.ensures
    ∙ session-there s s.sessions c.args.line.session c.tree.ensures.valid.sessions.there

pub returns : goal.returns
returns c =
    let s = c.args.kept.now.state in
    let t = c.tree.result.now.state in
    subst (λ (r : Result Resolved Refusal). Answers c.resolve.result r)
    (sym (same-resolved s t c.tree.ensures.tree.bares c.args.line.session c.stands_in-base.result c.args.line.command)
    ∙ ap (λ (base : ℕ). resolved_for s c.args.line.session base c.args.line.command) c.stands_in-base.ensures)
    c.resolve.ensures
