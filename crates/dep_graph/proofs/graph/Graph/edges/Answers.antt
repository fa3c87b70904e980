use Rattle.std.proofs.Common.{◌∙◌}
use Rattle.dep_graph.proofs.NodeLemmas.{kept-seen}
use Rattle.dep_graph.proofs.graph.Graph.edges.Goals as goal

pub returns : goal.returns
returns c = c.edges_at.ensures ∙ kept-seen c.self.inside c.args.self.now c.self.view_is c.args.dir
