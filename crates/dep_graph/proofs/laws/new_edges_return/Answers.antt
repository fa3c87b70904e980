use Rattle.dep_graph.proofs.LawLemmas.{return}
use Rattle.dep_graph.proofs.laws.new_edges_return.Goals as goal

pub returns : goal.returns
returns c = return
