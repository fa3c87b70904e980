use Rattle.std.proofs.lemmas.Result.{IfOk-weaker}
use Rattle.dep_graph.specs.Graphs.{edges_of}
use Rattle.state_check.proofs.CycleLemmas.{acyclic-told}
use Rattle.state_check.proofs.cycles.is_acyclic.Goals as goal

pub returns : goal.returns
returns c = IfOk-weaker c.is_acyclic.result _ _
    (λ told h. acyclic-told c.args.state.now
    (edges_of c.in_ok-graph.graph) told c.in_ok-graph.ensures h) c.is_acyclic.ensures
