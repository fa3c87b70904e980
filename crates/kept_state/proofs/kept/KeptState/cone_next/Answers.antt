use Rattle.std.proofs.Common.{ℕ, List, ap, subst, ◌∙◌}
use Rattle.std.specs.Prelude.{IfOk}
use Rattle.hac_model.specs.Tree.Depends.{depends}
use Rattle.dep_graph.specs.Searches.{IsCone}
use Rattle.kept_state.specs.After.{next_state}
use Rattle.kept_state.specs.Seen.{Seen}
use Rattle.kept_state.proofs.AfterLemmas.{next-edges, next-returns}
use Rattle.kept_state.proofs.kept.KeptState.cone_next.Goals as goal

pub cone_next-requires : goal.cone_next-requires
cone_next-requires c = next-returns c.self.inside c.self.invariant

pub returns : goal.returns
returns c =
    subst (λ (edges : ℕ → List ℕ). IfOk c.cone_next.result (λ numbers. IsCone edges c.args.dirs.now numbers.items))
    (λ i n. (next-edges c.self.inside c.self.invariant n ∙ ap (λ (seen : Seen). depends (next_state seen) n) c.self.view_is) i)
    c.cone_next.ensures
