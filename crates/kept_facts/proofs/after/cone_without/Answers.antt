use Rattle.std.proofs.Common.{ℕ, List, subst, sym}
use Rattle.std.specs.Prelude.{IfOk}
use Rattle.hac_model.specs.Tree.Depends.{NeverReturns}
use Rattle.dep_graph.specs.Graphs.{edges_of, replaced}
use Rattle.dep_graph.specs.Searches.{IsCone}
use Rattle.kept_facts.proofs.after.cone_without.Goals as goal

pub cone-requires : goal.cone-requires
cone-requires c = subst (λ (none : List ℕ). NeverReturns (replaced (edges_of c.args.graph.now) c.args.bared none)) (sym c.new.ensures.items) c.requires

pub returns : goal.returns
returns c = subst (λ (none : List ℕ). IfOk c.cone.result (λ numbers. IsCone (replaced (edges_of c.args.graph.now) c.args.bared none) c.args.dirs.now numbers.items)) c.new.ensures.items c.cone.ensures
