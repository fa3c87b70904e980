use Rattle.std.proofs.Common.{◌≡◌, subst, ◌∙◌}
use Rattle.hac_model.specs.Tree.Links.{column, links, provide}
use Rattle.hac_model.specs.declared.states.State.{State}
use Rattle.reindex.proofs.UnjudgedLemmas.{provided}
use Rattle.reindex.proofs.unjudged.UnjudgedBefore.provides.Goals as goal

pub returns : goal.returns
returns c =
    subst (λ (u : State). c.has_own.result ≡ provide u (column (links u) c.args.item) c.args.dir c.args.item) c.self.view_is
    (c.has_own.ensures ∙ provided c.self.inside.kept.now.state c.self.invariant c.args.dir c.args.item)
