use Rattle.std.proofs.Common.{subst, sym}
use Rattle.std.specs.Prelude.{Result}
use Rattle.hac_model.specs.Run.Answers.{Answers}
use Rattle.hac_model.specs.declared.replies.Refusal.{Refusal}
use Rattle.hac_model.specs.declared.resolved.Resolved.{Resolved}
use Rattle.command_paths.proofs.ResolveLemmas.{other-resolved}
use Rattle.command_paths.proofs.resolving.Resolver.resolve.Goals as goal

pub returns-in_default : goal.returns-in_default
returns-in_default c =
    subst (λ (r : Result Resolved Refusal). Answers c.follow.result r)
    (sym (other-resolved c.args.self.now.state c.args.session c.args.self.now.base c.args.command c.in_default.not-Cd)) c.follow.ensures
