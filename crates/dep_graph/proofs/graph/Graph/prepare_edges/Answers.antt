use Rattle.std.proofs.Common.{◌∙◌}
use Rattle.dep_graph.proofs.NodeLemmas.{kept-at, kept-seen}
use Rattle.dep_graph.proofs.graph.Graph.prepare_edges.Goals as goal

pub returns-in_err-make_place-clause-edges : goal.returns-in_err-make_place-clause-edges
returns-in_err-make_place-clause-edges c q = kept-at c.make_place.new.nodes.entries q ∙ c.make_place.ensures.edges q ∙ kept-seen c.self.inside c.forget.new.self c.self.view_is q ∙ c.forget.ensures.edges q

pub returns-clause-edges : goal.returns-clause-edges
returns-clause-edges c q = kept-at c.make_place.new.nodes.entries q ∙ c.make_place.ensures.edges q ∙ kept-seen c.self.inside c.forget.new.self c.self.view_is q ∙ c.forget.ensures.edges q
