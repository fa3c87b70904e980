use Rattle.std.proofs.Common.{ℕ, List, ap, ◌∙◌}
use Rattle.std.specs.Prelude.{if◌then◌else◌, nat_eq}
use Rattle.dep_graph.proofs.NodeLemmas.{kept-at, kept-seen}
use Rattle.dep_graph.proofs.graph.Graph.set_edges.Goals as goal

pub returns-clause-edges : goal.returns-clause-edges
returns-clause-edges c q =
    kept-at c.put.new.nodes.entries q
    ∙ c.put.ensures.edges q
    ∙ ap (λ (edges : List ℕ). if nat_eq q c.args.edges.dir then c.args.edges.edges.items else edges) (kept-seen c.self.inside c.args.self.now c.self.view_is q)
