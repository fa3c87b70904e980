use Rattle.std.proofs.Common.{◌≡◌, ℕ, List, [], subst, rules}
use Rattle.std.specs.Option.{option_copied}
use Rattle.hac_model.specs.Tree.Depends.{NeverReturns}
use Rattle.dep_graph.specs.Graphs.{edges_of, edges_with, replaced}
use Rattle.kept_facts.specs.After.{edges_after}
use Rattle.kept_facts.proofs.after.cone_after.Goals as goal

pub cone-requires : goal.cone-requires
cone-requires c =
    let same : edges_after c.args.event.now c.args.edges.now c.args.graph.now ≡ edges_of c.args.graph.now = search rules in
    subst (λ (edges : ℕ → List ℕ). NeverReturns edges) same c.requires

pub cone-requires-in-Smkdir : goal.cone-requires-in-Smkdir
cone-requires-in-Smkdir c =
    let same : edges_after c.args.event.now c.args.edges.now c.args.graph.now ≡ edges_with c.args.graph.now (option_copied c.as_ref.result) = search rules in
    subst (λ (edges : ℕ → List ℕ). NeverReturns edges) same c.requires

pub cone_without-requires : goal.cone_without-requires
cone_without-requires c =
    let same : edges_after c.args.event.now c.args.edges.now c.args.graph.now ≡ replaced (edges_of c.args.graph.now) c.in-Unq.bared [] = search rules in
    subst (λ (edges : ℕ → List ℕ). NeverReturns edges) same c.requires
