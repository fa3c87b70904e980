use Rattle.std.proofs.Common.{◌≡◌, ℕ, List, subst, rules}
use Rattle.hac_model.specs.Tree.Depends.{NeverReturns}
use Rattle.dep_graph.specs.Graphs.{edges_of}
use Rattle.kept_facts.specs.After.{edges_after}
use Rattle.kept_state.specs.After.{edges_next}
use Rattle.kept_state.proofs.after.cone_next.Goals as goal

pub cone_after-requires : goal.cone_after-requires
cone_after-requires c =
    let same : edges_next c.args.ready.now c.args.graph.now ≡ edges_after c.in-Change.event c.in-Change.edges c.args.graph.now = search rules in
    subst (λ (edges : ℕ → List ℕ). NeverReturns edges) same c.requires

pub cone-requires : goal.cone-requires
cone-requires c =
    let same : edges_next c.args.ready.now c.args.graph.now ≡ edges_of c.args.graph.now = search rules in
    subst (λ (edges : ℕ → List ℕ). NeverReturns edges) same c.requires
