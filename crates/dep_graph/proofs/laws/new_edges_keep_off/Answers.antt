use Rattle.dep_graph.proofs.LawLemmas.{keep_off}
use Rattle.dep_graph.proofs.laws.new_edges_keep_off.Goals as goal

pub returns : goal.returns
returns c = keep_off
