use Rattle.std.proofs.Common.{ℕ, List, [], ap, ◌∙◌}
use Rattle.std.specs.Prelude.{if◌then◌else◌, nat_eq}
use Rattle.dep_graph.proofs.NodeLemmas.{kept-at, kept-seen}
use Rattle.dep_graph.proofs.graph.Graph.drop_node.Goals as goal

pub returns-clause-edges : goal.returns-clause-edges
returns-clause-edges c q =
    kept-at c.take_out.new.nodes.entries q
    ∙ c.take_out.ensures.edges q
    ∙ ap (λ (edges : List ℕ). if nat_eq q c.args.dir then [] else edges) (kept-seen c.self.inside c.forget.new.self c.self.view_is q ∙ c.forget.ensures.edges q)
