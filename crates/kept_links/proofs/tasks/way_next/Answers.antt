use Rattle.std.proofs.Common.{ℕ, List, ap, subst, sym, ◌∙◌}
use Rattle.std.specs.Prelude.{IfOk}
use Rattle.dep_graph.specs.Searches.{IsCone}
use Rattle.hac_model.specs.Tree.Depends.{depends}
use Rattle.hac_model.specs.declared.states.State.{State}
use Rattle.kept_state.specs.After.{next_state}
use Rattle.reindex.specs.Ways.{IsWayOver, with_first}
use Rattle.kept_links.proofs.TaskLemmas.{way-from}
use Rattle.kept_links.proofs.tasks.way_next.Goals as goal

pub returns : goal.returns
returns c =
    let t = next_state c.args.kept.now in
    let order = c.as_slice-3.result.now in
    way-from c.args.kept.now.state t c.args.first c.in_ok-known.known.items c.in_ok-dirs.dirs.items order c.way_over.result
    (c.in_ok-dirs.ensures ∙ ap (with_first c.args.first) c.as_slice.ensures.value)
    (λ dir some. (c.in_ok-known.ensures.all dir).1 (λ none. some (sym (c.graph.ensures.edges dir) ∙ none)))
    (subst (λ (dirs : List ℕ). IsCone (depends t) dirs order) c.as_slice-2.ensures.value
    (subst (λ (ns : List ℕ). IsCone (depends t) c.as_slice-2.result.now ns) (sym c.as_slice-3.ensures.value) c.in_ok-order.ensures))
    (subst (λ (u : State). IfOk c.way_over.result (λ way. IsWayOver u order way)) c.requires c.way_over.ensures)
