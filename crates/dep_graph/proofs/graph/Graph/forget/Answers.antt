use Rattle.std.proofs.Common.{ap, ◌∙◌}
use Rattle.dep_graph.proofs.NodeLemmas.{kept-at, kept-seen}
use Rattle.dep_graph.specs.Inner.{kept_in}
use Rattle.dep_graph.specs.declared.graph.Graph.TheInside.{Inside}
use Rattle.dep_graph.proofs.graph.Graph.forget.Goals as goal
use Rattle.dep_graph.proofs.graph.Graph.forget.Goals.{in-Some, in_default}

pub returns-clause-edges : goal.returns-clause-edges
returns-clause-edges c q = elim c.match-self.branch [
  | in-Some w ↦ kept-at c.match-self.self-inside.nodes.entries q ∙ ap (λ (g : Inside). kept_in g.nodes q) w.self-inside-is ∙ w.take_out_bare.ensures.edges q ∙ kept-seen c.self.inside c.args.self.now c.self.view_is q
  | in_default w ↦ kept-at c.match-self.self-inside.nodes.entries q ∙ ap (λ (g : Inside). kept_in g.nodes q) w.self-inside-is ∙ kept-seen c.self.inside c.args.self.now c.self.view_is q
]
