use Rattle.std.proofs.Common.{ap, ◌∙◌}
use Rattle.hac_model.specs.Tree.Depends.{depends}
use Rattle.kept_state.specs.After.{next_state}
use Rattle.kept_state.specs.Seen.{Seen}
use Rattle.kept_state.proofs.AfterLemmas.{next-edges}
use Rattle.kept_state.proofs.kept.KeptState.depends_next.Goals as goal

pub returns : goal.returns
returns c =
    c.edges_next.ensures ∙ next-edges c.self.inside c.self.invariant c.args.dir ∙ ap (λ (seen : Seen). depends (next_state seen) c.args.dir) c.self.view_is
