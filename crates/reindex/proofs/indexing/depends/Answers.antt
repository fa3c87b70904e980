use Rattle.std.proofs.Common.{◌∙◌}
use Rattle.reindex.proofs.indexing.depends.Goals as goal

pub returns : goal.returns
returns c = c.edges.ensures ∙ c.graph.ensures.edges c.args.dir
